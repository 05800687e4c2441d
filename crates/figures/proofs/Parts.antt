-- Parts of an amount: products that are divided again.
use Rattle.std.proofs.Common.{◌≡◌, ℕ, ◌*◌, ◌/◌, ◌<◌, ◌≤◌, sym, ap, ◌∙◌, mul_comm, mul-le-mul_left, div-mul-le_self, arith}
use native.Mathlib.Nat.{div-le_of_le-mul, div-div-eq-div-mul}
use Rattle.std.proofs.lemmas.Nat.{le-div}

-- b of c parts of a are at most a
pub part_le : (a b c : ℕ) → b ≤ c → a * b / c ≤ a
part_le a b c h =
    div-le_of_le-mul c
    (let e : a * b ≤ a * c = mul-le-mul_left a h in let f : a * c ≡ c * a = mul_comm a c in omega arith)

-- a greater divisor, a smaller quotient
pub div_falls : (a b c : ℕ) → 0 < b → b ≤ c → a / c ≤ a / b
div_falls a b c p h =
    let e : a / c * b ≤ a / c * c = mul-le-mul_left (a / c) h in
    let f = div-mul-le_self a c in
    le-div (a / c) a b p (omega arith)

-- half of a quotient divides by twice as much
pub div_half : (a b : ℕ) → a / (2 * b) ≡ a / b / 2
div_half a b = ap (λ n. a / n) (mul_comm 2 b) ∙ sym (div-div-eq-div-mul a b 2)
