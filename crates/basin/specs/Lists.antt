-- Words on lists that the law uses.
--   All P xs       P holds of every element
--   total f xs     f of every element, added up
--   One R xs ys    one element changes as R says, the others stay
--   Less y xs ys   the element y goes, the others stay
use Rattle.std.specs.Prelude.{ℕ, ◌+◌, List, [], ◌∷◌}

abbrev pub All : {X : Type 0} → (X → Type 0) → List X → Type 0
All P [] = Unit {0}
All P (x ∷ xs) = P x × All P xs

abbrev pub total : {X : Type 0} → (X → ℕ) → List X → ℕ
total f [] = 0
total f (x ∷ xs) = f x + total f xs

pub data One {X : Type 0} (R : X → X → Type 0) : List X → List X → Type 0 where
  here : {x y : X} {xs : List X} → R x y → One R (x ∷ xs) (y ∷ xs)
  there : {x : X} {xs ys : List X} → One R xs ys → One R (x ∷ xs) (x ∷ ys)

pub data Less {X : Type 0} (y : X) : List X → List X → Type 0 where
  first : {xs : List X} → Less y (y ∷ xs) xs
  later : {x : X} {xs ys : List X} → Less y xs ys → Less y (x ∷ xs) (x ∷ ys)
