-- What is taken of a supply where the capacity to take it rises evenly from 0 to b over the area.
--   share_rule x b   the amount taken of x, by cases
--   share x b        the same, as what rests on it names it
--   Shared x b r     r is that amount, and the two laws that the land rests on
use Rattle.std.specs.Prelude.{◌≡◌, ℕ, ◌-◌, ◌*◌, ◌/◌, ◌≤◌, cond, ◌==◌, nat_le}

-- nothing at capacity 0; x less x * x / (2 * b) up to b; half of b above it
abbrev pub share_rule : ℕ → ℕ → ℕ
share_rule x b = cond (b == 0) 0 (cond (nat_le x b) (x - x * x / (2 * b)) (b - b / 2))

unfoldable pub share : ℕ → ℕ → ℕ
share x b = share_rule x b

-- r is the share, a part of the supply, and no more than the share at any greater capacity
pub record Shared (x b r : ℕ) : Type 0 where
  pub value : r ≡ share x b
  pub part : r ≤ x
  pub grows : (c : ℕ) → b ≤ c → r ≤ share x c
