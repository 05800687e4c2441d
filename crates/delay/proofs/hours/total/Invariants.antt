-- The sum so far, or the greatest number where it is more.
use Rattle.std.proofs.Common.{◌≡◌, ◌-◌, ◌^◌, min}
use Rattle.figures.specs.Portions.{first}
use Rattle.delay.proofs.hours.total.Given as goal

abbrev pub invariant-loop-weight : goal.invariant-loop-weight
invariant-loop-weight l = l.sum ≡ min (first l.weights l.weight-index) (2 ^ 64 - 1)
