-- The two curves never pass the whole.
use Rattle.std.proofs.Common.{ℕ, ◌-◌, ◌<◌, ◌≤◌, List, [], ◌∷◌, arith, rules}
use Rattle.std.proofs.lemmas.Bool.Decides.{nat_tests}
use Rattle.figures.specs.Curve.{between, along, place, upper_part, ground_part, upper_knots, ground_knots}
use Rattle.figures.specs.declared.curve.Knot.{Knot}
use Rattle.figures.proofs.Parts.{part_le}

between_most : (p v q w z m : ℕ) → z ≤ q → v ≤ m → w ≤ m → between p v q w z ≤ m
between_most p v q w z m h a b = let d = part_le (w - v) (z - p) (q - p) (omega arith) in grind (arith, nat_tests)

-- every knot of the list is at most m
abbrev Low : ℕ → List Knot → Type 0
Low m [] = Unit {0}
Low m (k ∷ ks) = (k.value ≤ m) × Low m ks

along_most : (n z p v m : ℕ) (ks : List Knot) → v ≤ m → Low m ks → along n z p v ks ≤ m
along_most n z p v m [] a b = a
along_most n z p v m (k ∷ ks) a b =
    let here : z < place n k → between p v (place n k) k.value z ≤ m = λ l. between_most p v (place n k) k.value z m (omega arith) a b.0 in
    let past = along_most n z (place n k) k.value m ks b.0 b.1 in
    grind (arith, nat_tests)

pub upper_most : (n z : ℕ) → upper_part n z ≤ 1048576
unfolding upper_part
upper_most n z = along_most n z 0 1048576 1048576 upper_knots (omega arith) (search rules)

pub ground_most : (n z : ℕ) → ground_part n z ≤ 1048576
unfolding ground_part
ground_most n z = along_most n z 0 0 1048576 ground_knots (omega arith) (search rules)
