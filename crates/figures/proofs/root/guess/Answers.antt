-- The divisor is a square above 0; twice the number and the quotient fit 64 bits together, since the square lacks 2^33.
use Rattle.std.proofs.Common.{ℕ, ◌*◌, ◌≤◌, mul-le-mul, div-le_self, arith}
use Rattle.figures.proofs.root.guess.Goals as goal

pub nonzero_div-square : goal.nonzero_div-square
nonzero_div-square c = mul-le-mul {n₁ = 1} {m₁ = 1} c.loop.invariant.0 c.loop.invariant.0

pub overflow_add-c : goal.overflow_add-c
overflow_add-c c =
    let y : ℕ = c.from-wide.result in
    let fits : y ≤ 0xffff_ffff = omega (arith, c.from-wide.ensures) in
    let square : y * y ≤ 0xffff_ffff * 0xffff_ffff = mul-le-mul fits fits in
    let quotient = div-le_self (y * y) (c.loop.c * c.loop.c) in
    omega arith
