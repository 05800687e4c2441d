-- What a bank means: a row of segments, and what a rain does to it.
--   tract       a segment as a bank shows it: area, content, ceiling
--   at ts k     segment k of a row, all zeros where it is missing
--   volume ts   the water on a row: area times content, added up
--   areas ts    the areas of a row
use Rattle.std.specs.Prelude.{◌≡◌, ℕ, ◌+◌, ◌*◌, ◌<◌, ◌≤◌, List, [], ◌∷◌, map, length, slice_index_or, slice_set}
use Rattle.refusals.specs.Limits.{Limit, limit}
use Rattle.refusals.specs.declared.Refusal.TheVariants.{NoSuchSegment, StorageFull}
use Rattle.storages.specs.Meaning.{Out, Stepped}
use Rattle.banks.specs.declared.tract.Tract.{Tract}

abbrev pub tract : (area content ceiling : ℕ) → Tract
tract a c m = record { area = a; content = c; ceiling = m }

abbrev pub at : List Tract → ℕ → Tract
at ts k = slice_index_or ts k (tract 0 0 0)

abbrev pub volume : List Tract → ℕ
volume [] = 0
volume (t ∷ ts) = t.area * t.content + volume ts

abbrev pub areas : List Tract → List ℕ
areas ts = map (λ t. t.area) ts

-- a segment within the limits of every bank
pub record Fit (t : Tract) : Type 0 where
  pub some : 1 ≤ t.area
  pub area : t.area ≤ 5000
  pub content : t.content ≤ t.ceiling
  pub ceiling : t.ceiling ≤ 100000000

-- one to sixteen segments, each within its limits
pub record Bounded (ts : List Tract) : Type 0 where
  pub some : 1 ≤ length ts
  pub few : length ts ≤ 16
  pub each : (k : ℕ) → k < length ts → Fit (at ts k)

-- rain on segment k meets a full one, here known by another number
abbrev pub room_limits : List Tract → (k depth named : ℕ) → List Limit
room_limits ts k depth named = limit ((at ts k).content + depth) (at ts k).ceiling (StorageFull named) ∷ []

-- rain on segment k meets a missing segment, then a full one
abbrev pub rain_limits : List Tract → (k depth : ℕ) → List Limit
rain_limits ts k depth = limit (k + 1) (length ts) (NoSuchSegment k) ∷ room_limits ts k depth k

-- a granted rain: segment k alone changes, and only its content, as by a storage's step
pub record Rained (ts : List Tract) (k depth demand : ℕ) (o : Out) (us : List Tract) : Type 0 where
  pub there : k < length ts
  pub content : ℕ
  pub step : Stepped (at ts k).content (at ts k).ceiling depth demand o content (at ts k).ceiling
  pub after : us ≡ slice_set ts k (tract (at ts k).area content (at ts k).ceiling)
