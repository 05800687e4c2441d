-- A number of fewer than twelve digits has room for one more.
use Rattle.std.proofs.Common.{ℕ, ◌^◌, ◌<◌, ◌≤◌, arith}
use native.Mathlib.Nat.{pow-le-pow_right}
use Rattle.card.proofs.figures.number.Goals as goal

few : (n i : ℕ) → n < 10 ^ i → i < 12 → n < 10 ^ 11
few n i small room = let h : 10 ^ i ≤ 10 ^ 11 = pow-le-pow_right {n = 10} (omega arith) {i = i} {j = 11} (omega arith) in omega arith

pub with_digit-n-requires-clause-few : goal.with_digit-n-requires-clause-few
with_digit-n-requires-clause-few c = few c.loop-digit.n c.loop-digit.digit-index c.loop-digit.invariant.0 (omega arith)
