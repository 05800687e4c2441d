use Rattle.std.proofs.Common.{◌-◌, ◌≤◌, length}
use Rattle.waterbook.proofs.fill.Given as goal

abbrev pub invariant-loop-got : goal.invariant-loop-got
invariant-loop-got g l = l.got ≤ length l.initial.block

abbrev pub decreases-loop-got : goal.decreases-loop-got
decreases-loop-got g l = length l.initial.block - l.got
