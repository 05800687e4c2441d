-- The laws of the hour hold, whatever is offered.
use Rattle.land.proofs.Hours.{laws}
use Rattle.land.proofs.segment.Segment.new.Goals as goal

pub returns : goal.returns
returns g c = record { made = c.dry_land.ensures; laws = laws }
