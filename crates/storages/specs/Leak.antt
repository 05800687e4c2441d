-- A leak: part of each inflow goes deep before it reaches the storage below.
--   leak_limits loss   what a leak may be made of
--   lost loss i        how much of an inflow goes deep
--   Leaks              a granted step, by the step of the storage below
use Rattle.std.specs.Prelude.{◌≡◌, List, [], ◌∷◌, ℕ, ◌+◌, ◌-◌, ◌*◌, ◌/◌}
use Rattle.refusals.specs.Limits.{Limit, limit}
use Rattle.refusals.specs.declared.Refusal.TheVariants.{StorageFigure}
use Rattle.storages.specs.Meaning.{Out, whole}
use Rattle.storages.specs.declared.meaning.Storage as storage

-- at most half of the whole
abbrev pub leak_limits : (loss : ℕ) → List Limit
leak_limits loss = limit loss 524288 StorageFigure ∷ []

abbrev pub lost : ℕ → ℕ → ℕ
lost loss i = loss * i / whole

-- the storage below steps with the rest of the inflow and the whole demand; what is lost joins its deep loss
pub record Leaks {A : Type 0} (G : storage.Ghosts A) (loss : ℕ) (s : A) (i d : ℕ) (o : Out) (t : A) : Type 0 where
  pub inner : Out
  pub steps : G.steps s (i - lost loss i) d inner t
  pub answer : o ≡ (inner.0, inner.1, inner.2 + lost loss i)
