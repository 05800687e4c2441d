-- A slope: overland water, which runs off the faster the deeper it stands.
--   slope_top           the ceiling of every slope
--   slope_limits rate   what a slope may be made of
--   Runs rate full r    r would run off of a sheet so deep, were there no end to it
--   Flows rate full o   the answer where the slope holds that much with the inflow
use Rattle.std.specs.Prelude.{◌≡◌, List, [], ◌∷◌, ℕ, ◌*◌, ◌/◌, min}
use Rattle.figures.specs.Root.{Root}
use Rattle.refusals.specs.Limits.{Limit, limit}
use Rattle.refusals.specs.declared.Refusal.TheVariants.{StorageFigure}
use Rattle.storages.specs.Meaning.{Out}

abbrev pub slope_top : ℕ
slope_top = 100000000

-- a rate from 1 to 100,000
abbrev pub slope_limits : (rate : ℕ) → List Limit
slope_limits rate = limit 1 rate StorageFigure ∷ limit rate 100000 StorageFigure ∷ []

-- the rate times the depth times the depth's root, in thousand millionths
pub record Runs (rate full r : ℕ) : Type 0 where
  pub root : ℕ
  pub greatest : Root full root
  pub amount : r ≡ rate * full * root / 1000000000

-- it releases no more than it holds, and nothing evaporates or goes deep
pub record Flows (rate full : ℕ) (o : Out) : Type 0 where
  pub runoff : ℕ
  pub runs : Runs rate full runoff
  pub answer : o ≡ (min full runoff, 0, 0)
