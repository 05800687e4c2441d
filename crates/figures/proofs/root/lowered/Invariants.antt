-- No number that was passed has a cube that fits.
use Rattle.std.proofs.Common.{ℕ, ◌≤◌}
use Rattle.figures.specs.Root.{cube}
use Rattle.figures.proofs.root.lowered.Given as goal

abbrev pub invariant-loop-c : goal.invariant-loop-c
invariant-loop-c l = (l.c ≤ l.initial.c) × ((d : ℕ) → d ≤ l.initial.c → cube d ≤ l.square → d ≤ l.c)

abbrev pub decreases-loop-c : goal.decreases-loop-c
decreases-loop-c l = l.c
