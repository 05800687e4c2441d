-- The knots of groundwater.
use Rattle.figures.proofs.Knots.{ground_apart, ground_through}
use Rattle.figures.proofs.curve.groundwater_part.Goals as goal

pub returns-clause-apart : goal.returns-clause-apart
returns-clause-apart c = ground_apart

pub returns-clause-through : goal.returns-clause-through
returns-clause-through c = ground_through
