-- A depth to the power two thirds, as a whole number.
--   cube c     c × c × c
--   Root y c   c is the greatest whole number whose cube is at most the square of y
use Rattle.std.specs.Prelude.{ℕ, ◌*◌, ◌≤◌}
use Rattle.figures.specs.Greatest.{Greatest}

abbrev pub cube : ℕ → ℕ
cube c = c * c * c

-- cube c ≤ y * y, and every d with cube d ≤ y * y is at most c
abbrev pub Root : ℕ → ℕ → Type 0
Root y c = Greatest (λ d. cube d ≤ y * y) c
