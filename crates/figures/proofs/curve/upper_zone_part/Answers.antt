-- The knots of the upper zone.
use Rattle.figures.proofs.Knots.{upper_apart, upper_through}
use Rattle.figures.proofs.curve.upper_zone_part.Goals as goal

pub returns-clause-apart : goal.returns-clause-apart
returns-clause-apart c = upper_apart

pub returns-clause-through : goal.returns-clause-through
returns-clause-through c = upper_through
