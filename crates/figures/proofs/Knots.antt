-- Where knots stand, and that a curve goes through them.
use Rattle.std.proofs.Common.{◌≡◌, ℕ, zero, suc, ◌-◌, ◌*◌, ◌/◌, ◌<◌, List, [], ◌∷◌, length, refl, mul-zero, arith, rules}
use native.Mathlib.Nat.{sub_self, zero-div}
use Rattle.std.proofs.lemmas.Bool.Decides.{nat_tests}
use Rattle.figures.specs.Curve.{along, at, between, curve, place, upper_knots, ground_knots, Rises, Apart, Through}
use Rattle.figures.specs.declared.curve.Knot.{Knot}

pub upper_apart : Apart 50000 2000000 upper_knots
upper_apart n l h = search rules

pub ground_apart : Apart 2000000 15000000 ground_knots
ground_apart n l h = search rules

-- no part of a difference is gone where a piece begins
still : (a p d : ℕ) → a * (p - p) / d ≡ 0
still a p d = simp (sub_self, mul-zero, zero-div)

-- a piece has its first value where it begins
between_start : (p v p' w : ℕ) → between p v p' w p ≡ v
between_start p v p' w =
    let up = still (w - v) p (p' - p) in let down = still (v - w) p (p' - p) in grind (arith, nat_tests)

-- a curve that stands at p has its value there
along_start : (n p v : ℕ) (ks : List Knot) → Rises n p ks → along n p p v ks ≡ v
along_start n p v [] r = refl
along_start n p v (k ∷ ks) r = let s = between_start p v (place n k) k.value in grind (arith, nat_tests)

-- every knot ahead stands past p
ahead : (n p : ℕ) (ks : List Knot) → Rises n p ks → (i : ℕ) → i < length ks → p < place n (at ks i)
ahead n p [] r i h = omega arith
ahead n p (k ∷ ks) r zero h = r.0
ahead n p (k ∷ ks) r (suc i) h = let l = ahead n (place n k) ks r.1 i (omega arith) in omega arith

-- a curve has a knot's value where that knot stands
along_through : (n p v : ℕ) (ks : List Knot) → Rises n p ks → (i : ℕ) → i < length ks → along n (place n (at ks i)) p v ks ≡ (at ks i).value
along_through n p v [] r i h = absurd (omega arith)
along_through n p v (k ∷ ks) r zero h = let s = along_start n (place n k) k.value ks r.1 in grind (arith, nat_tests)
along_through n p v (k ∷ ks) r (suc i) h =
    let l = ahead n (place n k) ks r.1 i (omega arith) in
    let t = along_through n (place n k) k.value ks r.1 i (omega arith) in
    grind (arith, nat_tests)

-- from its beginning through every knot
through : (n v : ℕ) (ks : List Knot) → Rises n 0 ks
    → (curve n 0 v ks ≡ v) × ((i : ℕ) → i < length ks → curve n (place n (at ks i)) v ks ≡ (at ks i).value)
through n v ks r = (along_start n 0 v ks r, along_through n 0 v ks r)

pub upper_through : Through 50000 2000000 1048576 upper_knots
upper_through n l h = through n 1048576 upper_knots (upper_apart n l h)

pub ground_through : Through 2000000 15000000 0 ground_knots
ground_through n l h = through n 0 ground_knots (ground_apart n l h)
