-- The greatest whole number that passes a test.
use Rattle.std.specs.Prelude.{ℕ, ◌≤◌}

-- P holds of c, and every d of which it holds is at most c
pub record Greatest (P : ℕ → Type 0) (c : ℕ) : Type 0 where
  pub fits : P c
  pub greatest : (d : ℕ) → P d → d ≤ c
