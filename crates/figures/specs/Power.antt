-- Powers of two by sixteenths of an exponent, in 65,536ths.
--   entry k         the table's entry k
--   Sixteenth k t   t is the greatest whole number whose 16th power is at most 2 ^ (256 + k)
--   power e         65,536 times two to the power e / 16
use Rattle.std.specs.Prelude.{◌≡◌, ℕ, ◌+◌, ◌*◌, ◌/◌, ◌%◌, ◌^◌, ◌<◌, ◌≤◌, List, [], ◌∷◌, slice_index}
use Rattle.figures.specs.Greatest.{Greatest}

abbrev pub sixteenths : List ℕ
sixteenths = 65536 ∷ 68437 ∷ 71467 ∷ 74631 ∷ 77935 ∷ 81386 ∷ 84989 ∷ 88752 ∷ 92681 ∷ 96785 ∷ 101070 ∷ 105545 ∷ 110217 ∷ 115097 ∷ 120193 ∷ 125514 ∷ []

abbrev pub entry : ℕ → ℕ
entry k = slice_index sixteenths k

-- t ^ 16 ≤ 2 ^ (256 + k), and every d with d ^ 16 ≤ 2 ^ (256 + k) is at most t
abbrev pub Sixteenth : ℕ → ℕ → Type 0
Sixteenth k t = Greatest (λ d. d ^ 16 ≤ 2 ^ (256 + k)) t

-- the rule of the whole table
abbrev pub TableStands : Type 0
TableStands = (k : ℕ) → k < 16 → Sixteenth k (entry k)

unfoldable pub power : ℕ → ℕ
power e = entry (e % 16) * 2 ^ (e / 16)

-- r is the power of e, at least that of 0, and no more than that of any greater exponent
pub record Powered (e r : ℕ) : Type 0 where
  pub value : r ≡ power e
  pub least : 65536 ≤ r
  pub grows : (f : ℕ) → e ≤ f → r ≤ power f
