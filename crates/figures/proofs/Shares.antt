-- The laws of a share.
use Rattle.std.proofs.Common.{◌≡◌, ℕ, ◌*◌, ◌/◌, ◌≤◌, inl, inr, arith}
use Rattle.std.proofs.lemmas.Bool.{cases_lt}
use Rattle.std.proofs.lemmas.Bool.Decides.{nat_tests as tells}
use Rattle.figures.specs.Share.{share, Shared}
use Rattle.figures.proofs.Parts.{part_le, div_falls, div_half}

-- what is taken off the supply, where it is at most the capacity: at most half of it
pub half_le : (x b : ℕ) → x ≤ b → x * x / (2 * b) ≤ x / 2
half_le x b h = let e = part_le x x b h in let f = div_half (x * x) b in omega arith

pub share_le : (x b : ℕ) → share x b ≤ x
unfolding share
share_le x b = grind (arith, tells)

pub share_grows : (x b c : ℕ) → b ≤ c → share x b ≤ share x c
unfolding share
share_grows x b c h =
    elim (cases_lt 0 b) [
      | inl p ↦
          let f = div_falls (x * x) (2 * b) (2 * c) (omega arith) (omega arith) in
          elim (cases_lt c x) [ inl l ↦ grind (arith, tells) | inr l ↦ let g = half_le x c l in grind (arith, tells) ]
      | inr p ↦ grind (arith, tells)
    ]

pub shared : (x b r : ℕ) → r ≡ share x b → Shared x b r
shared x b r e =
    let l = share_le x b in
    record { value = e; part = omega arith; grows = λ c h. let g = share_grows x b c h in omega arith }
