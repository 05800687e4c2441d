-- What is stepped through stays small: a cube of 64 bits has a root of 22.
use Rattle.std.proofs.Common.{ℕ, ◌^◌, ◌<◌, ◌≤◌, arith}
use Rattle.figures.specs.Root.{cube}
use Rattle.figures.proofs.Cubes.{cube_lt}
use Rattle.figures.proofs.root.raised.Goals as goal

small : (s c : ℕ) → s < 2 ^ 64 → cube c ≤ s → c < 2 ^ 22
small s c h fits = cube_lt c (2 ^ 22) (omega arith)

pub overflow_add-c : goal.overflow_add-c
overflow_add-c c = let l = small c.args.square c.loop-c.c (omega arith) c.loop-c.invariant in omega arith

pub overflow_add-c-in-loop-c : goal.overflow_add-c-in-loop-c
overflow_add-c-in-loop-c c = let l = small c.args.square c.loop-c.c (omega arith) c.loop-c.invariant in omega arith

pub loop-c-smaller : goal.loop-c-smaller
loop-c-smaller c = let l = small c.args.square c.loop-c.c (omega arith) c.loop-c.invariant in omega arith
