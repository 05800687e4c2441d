-- A record as its letter, its segment and the rest.
use Rattle.std.proofs.Common.{◌≡◌, ℕ, ◌-◌, List, [], ◌∷◌, length, get_or, take, drop, refl, ap, ◌∙◌, arith, length-drop, length-take}
use Rattle.std.proofs.lemmas.List.{take_rest}

apart : (bs : List ℕ) → length (take (length bs - 2) (drop 2 bs)) ≡ 14 → get_or bs 0 0 ∷ get_or bs 1 0 ∷ drop 2 bs ≡ bs
apart [] long = absurd (omega arith)
apart (a ∷ []) long = absurd (omega arith)
apart (a ∷ b ∷ bs) long = refl

-- what the pattern took, where the rest has fourteen bytes, is a record of sixteen
pub taken_apart : (bs rest : List ℕ) → length (take (length bs - 2) (drop 2 bs)) ≡ 14 → rest ≡ take (length bs - 2) (drop 2 bs)
    → (length bs ≡ 16) × (get_or bs 0 0 ∷ get_or bs 1 0 ∷ rest ≡ bs)
taken_apart bs rest long same = (
  omega (arith, long, length-take (length bs - 2) (drop 2 bs), length-drop 2 bs),
  ap (λ (xs : List ℕ). get_or bs 0 0 ∷ get_or bs 1 0 ∷ xs) (same ∙ take_rest bs 2) ∙ apart bs long,
)
