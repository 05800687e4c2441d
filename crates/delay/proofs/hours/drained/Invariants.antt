-- Each hour that was passed has lost what was left of the draw, and the others are as they were.
use Rattle.std.proofs.Common.{◌≡◌, ℕ, ◌-◌, ◌<◌, ◌≤◌, length, get_or}
use Rattle.figures.specs.Portions.{first}
use Rattle.delay.specs.Hours.{longest}
use Rattle.delay.proofs.hours.drained.Given as goal

abbrev pub invariant-loop-hour : goal.invariant-loop-hour
invariant-loop-hour l =
    (l.left ≡ l.amount - first l.initial.hour-items l.hour-index)
    × (length l.hour-items ≡ longest)
    × ((k : ℕ) → k < l.hour-index → get_or l.hour-items k 0 ≡ get_or l.initial.hour-items k 0 - (l.amount - first l.initial.hour-items k))
    × ((k : ℕ) → l.hour-index ≤ k → get_or l.hour-items k 0 ≡ get_or l.initial.hour-items k 0)
