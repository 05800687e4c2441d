-- What a storage means: content, ceiling, and what a step and a draw do to them.
--   whole    the parts that make a whole
--   top      the greatest ceiling
--   Out      the answer of a granted step: release, evaporated, deep loss
--   gone o   all that left
use Rattle.std.specs.Prelude.{◌≡◌, List, [], ◌∷◌, ℕ, ◌+◌, ◌-◌, ◌*◌, ◌/◌, ◌≤◌, min}
use Rattle.refusals.specs.Limits.{Limit, limit}
use Rattle.refusals.specs.declared.Refusal.TheVariants.{StorageFigure, StorageFull, DrawAmount}

abbrev pub whole : ℕ
whole = 1048576

abbrev pub top : ℕ
top = 8000000000000

abbrev pub Out : Type 0
Out = ℕ × ℕ × ℕ

abbrev pub gone : Out → ℕ
gone o = o.0 + o.1 + o.2

-- a step with this inflow is full above the ceiling
abbrev pub step_limits : (content ceiling inflow : ℕ) → List Limit
step_limits content ceiling inflow = limit (content + inflow) ceiling (StorageFull 0) ∷ []

-- a granted step, whatever the kind: content and ceiling before, inflow, demand, answer, content and ceiling after
pub record Stepped (c m i d : ℕ) (o : Out) (c' m' : ℕ) : Type 0 where
  pub evaporation : o.1 ≤ d
  pub balance : c' + gone o ≡ c + i
  pub ceiling : m' ≡ m

-- a draw takes at most the content
abbrev pub draw_limits : (content amount : ℕ) → List Limit
draw_limits content amount = limit amount content DrawAmount ∷ []

-- a granted draw, whatever the kind: content and ceiling before, amount, content and ceiling after
pub record Drawn (c m n c' m' : ℕ) : Type 0 where
  pub balance : c' + n ≡ c
  pub ceiling : m' ≡ m

-- a recession is made of a rate from 1 to the whole, and a ceiling
abbrev pub recession_limits : (rate ceiling : ℕ) → List Limit
recession_limits rate ceiling = limit 1 rate StorageFigure ∷ limit rate whole StorageFigure ∷ limit ceiling top StorageFigure ∷ []

-- a recession's answer, by what it holds with the inflow
abbrev pub recedes : (rate full demand : ℕ) → Out
recedes rate full demand = (rate * (full - min demand full) / whole, min demand full, 0)
