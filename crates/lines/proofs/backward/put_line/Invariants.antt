-- The figures so far, from the last on, stand before the newline.
use Rattle.std.proofs.Common.{◌≡◌, ◌+◌, ◌*◌, ◌≤◌, length, reverse, map}
use Rattle.lines.specs.Text.{entered}
use Rattle.lines.proofs.backward.put_line.Given as goal

abbrev pub invariant-loop-figure : goal.invariant-loop-figure
invariant-loop-figure l =
    (goal.iterator-loop-figure).can_next l.figure-iterator
    × (goal.iterator-loop-figure).is_finite l.figure-iterator
    × (length l.line ≤ 1 + 21 * length l.yielded)
    × (l.line ≡ entered (reverse (map (λ y. y.now) l.yielded)))
