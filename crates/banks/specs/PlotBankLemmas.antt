-- A plot's rain is its storage's step: what the laws of a plot rest on.
use Rattle.std.specs.Prelude.{◌≡◌, ℕ, zero, suc, ◌<◌, [], ◌∷◌, refl}
use Rattle.std.proofs.Common.{ap, ◌∙◌, arith}
use Rattle.storages.specs.Meaning.{Out, Stepped}
use Rattle.banks.specs.declared.tract.Tract.{Tract}
use Rattle.banks.specs.Rows.{tract, at, Fit, Rained}

pub only : (t : Tract) → Fit t → (k : ℕ) → k < 1 → Fit (at (t ∷ []) k)
only t f zero h = f
only t f (suc k) h = absurd (omega arith)

pub lone : (a c m a' c' m' k i d : ℕ) (o : Out) → k ≡ 0 → a' ≡ a → Stepped c m i d o c' m' → Rained (tract a c m ∷ []) k i d o (tract a' c' m' ∷ [])
lone a c m a' c' m' zero i d o z e s = record { there = omega arith; content = c'; step = record { evaporation = s.evaporation; balance = s.balance; ceiling = refl }; after = ap (λ x. tract x c' m' ∷ []) e ∙ ap (λ x. tract a c' x ∷ []) s.ceiling }
lone a c m a' c' m' (suc k) i d o z e s = absurd (omega arith)
