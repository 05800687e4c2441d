-- The hours of a delay: water on its way, by the hour in which it comes.
--   longest         the most weights that a delay may have
--   delay_limits    what a delay may be made of
--   padded ws       the weights, and 0 for each hour that has none
--   added v ws hs   the hours with an inflow added
--   nearer hs       the hours once the soonest is gone
--   drained n hs    the hours after a draw
use Rattle.std.specs.Prelude.{ℕ, ◌+◌, ◌-◌, List, [], ◌∷◌, ◌++◌, map, length, drop, replicate, sum, slice_index}
use Rattle.std.specs.List.{range_with_len}
use Rattle.figures.specs.Portions.{first, portion}
use Rattle.refusals.specs.Limits.{Limit, limit}
use Rattle.refusals.specs.declared.Refusal.TheVariants.{StorageFigure}
use Rattle.storages.specs.Meaning.{top, whole}

abbrev pub longest : ℕ
longest = 24

-- 1 to 24 weights whose sum is the whole, and a ceiling
abbrev pub delay_limits : (weights : List ℕ) (ceiling : ℕ) → List Limit
delay_limits ws ceiling =
    limit 1 (length ws) StorageFigure ∷ limit (length ws) longest StorageFigure
    ∷ limit (sum ws) whole StorageFigure ∷ limit whole (sum ws) StorageFigure
    ∷ limit ceiling top StorageFigure ∷ []

abbrev pub padded : List ℕ → List ℕ
padded ws = ws ++ replicate (longest - length ws) 0

-- hour j gains its portion
unfoldable pub added : ℕ → List ℕ → List ℕ → List ℕ
added v ws hs = map (λ j. slice_index hs j + portion v whole ws j) (range_with_len 0 longest)

-- the others move one nearer, and the last becomes 0
abbrev pub nearer : List ℕ → List ℕ
nearer hs = drop 1 hs ++ (0 ∷ [])

-- the soonest hour first: hour j loses what the hours before it left of the draw
unfoldable pub drained : ℕ → List ℕ → List ℕ
drained n hs = map (λ j. slice_index hs j - (n - first hs j)) (range_with_len 0 longest)
