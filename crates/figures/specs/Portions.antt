-- An amount divided by weights so that nothing is lost: differences of cumulative quotients.
--   first ws j         the sum of the first j weights
--   portion v n ws j   what falls to weight j of an amount v, in whole units, n being the divisor
use Rattle.std.specs.Prelude.{ℕ, ◌+◌, ◌-◌, ◌*◌, ◌/◌, List, take, sum}

abbrev pub first : List ℕ → ℕ → ℕ
first ws j = sum (take j ws)

-- the quotient of the first j + 1 weights less that of the first j
abbrev pub portion : ℕ → ℕ → List ℕ → ℕ → ℕ
portion v n ws j = v * first ws (j + 1) / n - v * first ws j / n
