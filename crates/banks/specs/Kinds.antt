-- The two kinds of bank: a lone plot and a pair. What each is made of, and what each call of it relies on.
use Rattle.std.specs.Prelude.{◌≡◌, ℕ, ◌+◌, ◌<◌, ◌≤◌, ◌⊎◌, List, [], ◌∷◌, ◌++◌, length, Option, Some, None}
use Rattle.refusals.specs.Limits.{Limit, limit}
use Rattle.refusals.specs.declared.Refusal.TheVariants.{PlotFigure, TooManySegments}
use Rattle.storages.specs.Meaning.{Out}
use Rattle.storages.specs.declared.meaning.Storage as storage
use Rattle.banks.specs.Rows.{tract, at}
use Rattle.banks.specs.declared.tract.Tract.{Tract}
use Rattle.banks.specs.declared.meaning.Bank as bank
use Rattle.banks.specs.declared.plot.Plot.{Plot}
use Rattle.banks.specs.declared.pair.Pair.{Pair}
use Rattle.banks.specs.declared.pair.Place.{Place}
use Rattle.banks.specs.declared.pair.Place.TheVariants.{First, Second}

-- a plot has 1 to 5,000 acres, over a storage with a ceiling of at most 10^8
abbrev pub plot_limits : (area ceiling : ℕ) → List Limit
plot_limits area ceiling = limit 1 area PlotFigure ∷ limit area 5000 PlotFigure ∷ limit ceiling 100000000 PlotFigure ∷ []

-- the one segment of a plot
abbrev pub plot_tract : {S : Type 0} → (G : storage.Ghosts S) → Plot S G → Tract
plot_tract G p = tract p.area (G.holds p.storage) (G.limit p.storage)

-- what a plot means as a bank
abbrev pub plot_means : {S : Type 0} → (G : storage.Ghosts S) → bank.Ghosts (Plot S G)
plot_means G = record {
  tracts = λ p. plot_tract G p ∷ [];
  rains = λ p k i d o q. (k ≡ 0) × G.steps p.storage i d o q.storage × (q.area ≡ p.area);
}

-- a pair has at most sixteen segments
abbrev pub pair_limits : (first second : ℕ) → List Limit
pair_limits first second = limit (first + second) 16 TooManySegments ∷ []

-- a pair rains by the bank that has the segment, and the other bank stays as it is
abbrev pub PairRains : {F S : Type 0} → (G : bank.Ghosts F) → (H' : bank.Ghosts S) → Pair F S G H' → (k depth demand : ℕ) → Out → Pair F S G H' → Type 0
PairRains G H' p k i d o q = ((k < length (G.tracts p.first)) × G.rains p.first k i d o q.first × (q.second ≡ p.second))
    ⊎ ((j : ℕ) × (k ≡ length (G.tracts p.first) + j) × H'.rains p.second j i d o q.second × (q.first ≡ p.first))

-- where a joined row has its segment k
abbrev pub Placed : List Tract → List Tract → ℕ → Option Place → Type 0
Placed xs ys k (Some (First j)) = (j ≡ k) × (j < length xs) × (length (xs ++ ys) ≡ length xs + length ys) × (at (xs ++ ys) k ≡ at xs j)
Placed xs ys k (Some (Second j)) = (k ≡ length xs + j) × (j < length ys) × (length (xs ++ ys) ≡ length xs + length ys) × (at (xs ++ ys) k ≡ at ys j)
Placed xs ys k None = (length (xs ++ ys) ≤ k) × (at (xs ++ ys) k ≡ tract 0 0 0)
