-- The table of sixteenths: its rule, and how powers grow.
use Rattle.std.proofs.Common.{◌≡◌, ℕ, ◌+◌, ◌*◌, ◌/◌, ◌%◌, ◌^◌, ◌<◌, ◌≤◌, sym, ap, ◌∙◌, inl, inr, mul-le-mul_right, mul_assoc, mul_comm, mul-le-mul, mul-le-mul_left, arith, lit<, rules}
use native.Mathlib.Nat.{pow-le-pow_left, pow-le-pow_right}
use Rattle.std.proofs.lemmas.Nat.{pow-add}
use Rattle.std.proofs.lemmas.Bool.{cases_lt}
use Rattle.figures.specs.Power.{entry, TableStands, power, Powered}

-- the rule as a test of an entry and of the number above it
record Bounds (k t : ℕ) : Type 0 where
  fits : t ^ 16 ≤ 2 ^ (256 + k)
  past : 2 ^ (256 + k) < (t + 1) ^ 16
  least : 65536 ≤ t
  most : t ≤ 125514

entries : (k : ℕ) → k < 16 → Bounds k (entry k)
entries k h = search rules

pub entry_small : (k : ℕ) → k < 16 → entry k < 2 ^ 17
entry_small k h = let e = entries k h in omega arith

pub table_stands : TableStands
table_stands k h =
    let e = entries k h in
    record {
      fits = e.fits;
      greatest = λ d f. elim (cases_lt (entry k) d) [ inl l ↦ let q : entry k + 1 ≤ d = omega arith in let p = pow-le-pow_left q 16 in omega arith | inr l ↦ l ];
    }

-- entries grow, since what fits below a smaller power fits below a greater one
rising : (j k : ℕ) → j ≤ k → k < 16 → entry j ≤ entry k
rising j k h l =
    let e = entries j (omega arith) in
    let p : 2 ^ (256 + j) ≤ 2 ^ (256 + k) = pow-le-pow_right (lit< tt) (omega arith) in
    (table_stands k l).greatest (entry j) (omega arith)

-- an entry at most once more doubled, times a power of two
doubled : (s t i j : ℕ) → s ≤ 2 * t → i < j → s * 2 ^ i ≤ t * 2 ^ j
doubled s t i j h l =
    let p : s * 2 ^ i ≤ 2 * t * 2 ^ i = mul-le-mul_right (2 ^ i) h in
    let q : 2 * t * 2 ^ i ≡ t * 2 ^ (1 + i) = ap (λ n. n * 2 ^ i) (mul_comm 2 t) ∙ mul_assoc t 2 (2 ^ i) ∙ ap (λ n. t * n) (sym (pow-add 2 1 i)) in
    let r : t * 2 ^ (1 + i) ≤ t * 2 ^ j = mul-le-mul_left t (pow-le-pow_right (lit< tt) (omega arith)) in
    omega arith

pub power_grows : (e f : ℕ) → e ≤ f → power e ≤ power f
unfolding power
power_grows e f h =
    elim (cases_lt (e / 16) (f / 16)) [
      | inl l ↦
          let a = entries (e % 16) (omega arith) in
          let b = entries (f % 16) (omega arith) in
          doubled (entry (e % 16)) (entry (f % 16)) (e / 16) (f / 16) (omega arith) l
      | inr l ↦
          let t = rising (e % 16) (f % 16) (omega arith) (omega arith) in
          let i : e / 16 ≤ f / 16 = omega arith in
          mul-le-mul t (pow-le-pow_right (lit< tt) i)
    ]

pub powered : (e r : ℕ) → r ≡ power e → Powered e r
unfolding power
powered e r h =
    let z : 0 ≤ e = omega arith in
    let least : 65536 ≤ power e = power_grows 0 e z in
    record { value = h; least = omega arith; grows = λ f l. let g = power_grows e f l in omega arith }
