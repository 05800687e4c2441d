-- The cube fits all the way up; no cube of 64 bits has a root of more than 22.
use Rattle.std.proofs.Common.{◌-◌, ◌^◌, ◌≤◌}
use Rattle.figures.specs.Root.{cube}
use Rattle.figures.proofs.root.raised.Given as goal

abbrev pub invariant-loop-c : goal.invariant-loop-c
invariant-loop-c l = cube l.c ≤ l.square

abbrev pub decreases-loop-c : goal.decreases-loop-c
decreases-loop-c l = 2 ^ 22 - l.c
