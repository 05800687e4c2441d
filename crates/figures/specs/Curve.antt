-- Curves that are straight between knots and flat after the last.
--   place n k            where a knot stands for a nominal content n
--   between p v p' w z   the value at z on the straight piece from v at p to w at p'
--   along n z p v ks     the value at z, past a knot at p with value v, with the knots ks ahead
--   curve n z v ks       the value at z of the curve that begins with v at content 0
--   upper_part n z       the part of slope water that the upper zone keeps, in 1,048,576ths
--   ground_part n z      the part of infiltration and percolation that goes to groundwater, likewise
--   Apart, Through       the knots stand apart, and the curve goes through them
use Rattle.std.specs.Prelude.{◌≡◌, ℕ, ◌+◌, ◌-◌, ◌*◌, ◌/◌, ◌<◌, ◌≤◌, cond, List, [], ◌∷◌, length, nat_le, nat_lt, slice_index_or}
use Rattle.figures.specs.declared.curve.Knot.{Knot}

-- a multiple of the nominal content, the fraction dropped after the product
abbrev pub place : ℕ → Knot → ℕ
place n k = k.multiple * n / k.denominator

-- rising pieces add, falling pieces take off, each with its fraction dropped
abbrev pub between : ℕ → ℕ → ℕ → ℕ → ℕ → ℕ
between p v p' w z = cond (nat_le v w) (v + (w - v) * (z - p) / (p' - p)) (v - (v - w) * (z - p) / (p' - p))

-- straight to the next knot where z lies before it, else on from that knot
abbrev pub along : ℕ → ℕ → ℕ → ℕ → List Knot → ℕ
along n z p v [] = v
along n z p v (k ∷ ks) = cond (nat_lt z (place n k)) (between p v (place n k) k.value z) (along n z (place n k) k.value ks)

abbrev pub curve : ℕ → ℕ → ℕ → List Knot → ℕ
curve n z v ks = along n z 0 v ks

abbrev pub knot : ℕ → ℕ → ℕ → Knot
knot m d v = record { multiple = m; denominator = d; value = v }

-- the upper zone's knots, after 1,048,576 at content 0
abbrev pub upper_knots : List Knot
upper_knots = knot 1 1 990321 ∷ knot 2 1 524288 ∷ knot 5 2 116508 ∷ knot 3 1 16384 ∷ knot 7 2 1677 ∷ knot 4 1 134 ∷ []

-- the lower zone's knots, after 0 at content 0
abbrev pub ground_knots : List Knot
ground_knots = knot 1 3 38836 ∷ knot 1 1 524288 ∷ knot 5 3 932067 ∷ knot 7 3 1032192 ∷ knot 3 1 1046898 ∷ []

unfoldable pub upper_part : ℕ → ℕ → ℕ
upper_part nominal content = curve nominal content 1048576 upper_knots

unfoldable pub ground_part : ℕ → ℕ → ℕ
ground_part nominal content = curve nominal content 0 ground_knots

-- knot i of a list
abbrev pub at : List Knot → ℕ → Knot
at ks i = slice_index_or ks i (knot 0 0 0)

-- what the reader of a curve relies on: no knot has a denominator of 0 or a value above the whole
abbrev pub Readable : List Knot → Type 0
Readable ks = (i : ℕ) → i < length ks → (1 ≤ (at ks i).denominator) × ((at ks i).value ≤ 1048576)

-- each knot stands past the one before it, the first past p
abbrev pub Rises : ℕ → ℕ → List Knot → Type 0
Rises n p [] = Unit {0}
Rises n p (k ∷ ks) = (p < place n k) × Rises n (place n k) ks

-- the knots stand apart for every nominal content from low to high
abbrev pub Apart : ℕ → ℕ → List Knot → Type 0
Apart low high ks = (n : ℕ) → low ≤ n → n ≤ high → Rises n 0 ks

-- the curve begins with v and goes through every knot, for every nominal content from low to high
abbrev pub Through : ℕ → ℕ → ℕ → List Knot → Type 0
Through low high v ks =
    (n : ℕ) → low ≤ n → n ≤ high
    → (curve n 0 v ks ≡ v) × ((i : ℕ) → i < length ks → curve n (place n (at ks i)) v ks ≡ (at ks i).value)
