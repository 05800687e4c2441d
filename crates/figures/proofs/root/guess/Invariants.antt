-- Each number that is tried lies from 1 to the greatest of 32 bits.
use Rattle.std.proofs.Common.{◌^◌, ◌<◌, ◌≤◌}
use Rattle.figures.proofs.root.guess.Given as goal

abbrev pub invariant-loop : goal.invariant-loop
invariant-loop l = (1 ≤ l.c) × (l.c < 2 ^ 32)
