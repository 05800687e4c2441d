-- Below j each hour has its portion, and from j on it is as it was.
use Rattle.std.proofs.Common.{◌≡◌, ℕ, ◌+◌, ◌*◌, ◌/◌, ◌<◌, ◌≤◌, length, get_or}
use Rattle.figures.specs.Portions.{first, portion}
use Rattle.storages.specs.Meaning.{whole}
use Rattle.delay.specs.Hours.{longest}
use Rattle.delay.proofs.hours.spread.Given as goal

abbrev pub invariant-loop-j : goal.invariant-loop-j
invariant-loop-j l =
    (l.before.0 ≡ first l.weights l.j)
    × (l.fallen ≡ l.inflow * first l.weights l.j / whole)
    × (length l.full ≡ longest)
    × ((k : ℕ) → k < l.j → get_or l.full k 0 ≡ get_or l.initial.full k 0 + portion l.inflow whole l.weights k)
    × ((k : ℕ) → l.j ≤ k → get_or l.full k 0 ≡ get_or l.initial.full k 0)
