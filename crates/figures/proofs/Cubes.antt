-- Cubes: they grow, and the greatest number whose cube fits.
use Rattle.std.proofs.Common.{◌≡◌, ℕ, ◌+◌, ◌<◌, ◌≤◌, inl, inr, mul-le-mul, le_antisymm, arith}
use Rattle.std.proofs.lemmas.Bool.{cases_lt}
use Rattle.figures.specs.Greatest.{Greatest}
use Rattle.figures.specs.Root.{cube}

-- cubes grow
pub cube_le : (c d : ℕ) → c ≤ d → cube c ≤ cube d
cube_le c d h = mul-le-mul (mul-le-mul h h) h

-- what has a smaller cube is smaller
pub cube_lt : (c d : ℕ) → cube c < cube d → c < d
cube_lt c d h = elim (cases_lt c d) [ inl l ↦ l | inr l ↦ let e = cube_le d c l in omega arith ]

-- c is the greatest where the next cube does not fit
pub greatest_cube : (s c : ℕ) → cube c ≤ s → s < cube (c + 1) → Greatest (λ d. cube d ≤ s) c
greatest_cube s c fits past =
    record {
      fits = fits;
      greatest = λ d h. let l : d < c + 1 = cube_lt d (c + 1) (omega arith) in omega arith;
    }

-- there is one greatest number, whatever the test
pub one_greatest : (P : ℕ → Type 0) (c d : ℕ) → Greatest P c → Greatest P d → c ≡ d
one_greatest P c d g h = le_antisymm (h.greatest c g.fits) (g.greatest d h.fits)
