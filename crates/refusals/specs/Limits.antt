-- When a call is refused: its limits in their order, and the first that is passed.
--   Limit              an amount, the most that it may be, and the refusal that is met above that
--   Kept ls            every limit of the list is kept
--   Passed ls f        f is the refusal of the first limit that is passed
--   Answers ls r P K   the answer r is granted exactly where every limit is kept, and then P holds of its value;
--                      otherwise it is the refusal of the first limit that is passed, and K holds
use Rattle.std.specs.Prelude.{◌≡◌, ℕ, ◌<◌, ◌≤◌, ◌⊎◌, List, [], ◌∷◌, Ok, Err, Result}
use Rattle.refusals.specs.declared.Refusal.{Refusal}

pub record Limit : Type 0 where
  pub amount : ℕ
  pub most : ℕ
  pub refusal : Refusal

abbrev pub limit : ℕ → ℕ → Refusal → Limit
limit a m f = record { amount = a; most = m; refusal = f }

abbrev pub Kept : List Limit → Type 0
Kept [] = Unit {0}
Kept (l ∷ ls) = (l.amount ≤ l.most) × Kept ls

abbrev pub Passed : List Limit → Refusal → Type 0
Passed [] f = ⊥
Passed (l ∷ ls) f = ((l.most < l.amount) × (f ≡ l.refusal)) ⊎ ((l.amount ≤ l.most) × Passed ls f)

abbrev pub Answers : {T : Type 0} → List Limit → Result T Refusal → (T → Type 0) → Type 0 → Type 0
Answers ls (Ok x) P K = Kept ls × P x
Answers ls (Err f) P K = Passed ls f × K
