-- A chain: one storage above another.
--   chain_limits   what a chain may be made of
--   both s         both contents
--   lesser s       the lesser ceiling
--   Chained        a granted step, by the steps of the two
--   ChainDrawn     a granted draw, by the draws of the two
use Rattle.std.specs.Prelude.{◌≡◌, List, [], ◌∷◌, ℕ, ◌+◌, ◌-◌, min}
use Rattle.refusals.specs.Limits.{Limit, limit}
use Rattle.refusals.specs.declared.Refusal.TheVariants.{JoinedContents}
use Rattle.storages.specs.Meaning.{Out}
use Rattle.storages.specs.declared.chain.Chain.{Chain}
use Rattle.storages.specs.declared.meaning.Storage as storage
use Rattle.storages.specs.declared.meaning.Tapped as tapped

-- the two contents are joined under the lesser ceiling
abbrev pub chain_limits : (content_a content_b ceiling_a ceiling_b : ℕ) → List Limit
chain_limits a b m n = limit (a + b) (min m n) JoinedContents ∷ []

module _ {A B : Type 0} (G : storage.Ghosts A) (H : storage.Ghosts B) where
  abbrev pub both : Chain A B G H → ℕ
  both s = G.holds s.above + H.holds s.below

  abbrev pub lesser : Chain A B G H → ℕ
  lesser s = min (G.limit s.above) (H.limit s.below)

  -- the release of the one above flows into the one below, which meets the demand that is left; evaporated and deep loss add
  pub record Chained (s : Chain A B G H) (i d : ℕ) (o : Out) (t : Chain A B G H) : Type 0 where
    pub upper : Out
    pub lower : Out
    pub above : G.steps s.above i d upper t.above
    pub below : H.steps s.below upper.0 (d - upper.1) lower t.below
    pub answer : o ≡ (lower.0, upper.1 + lower.1, upper.2 + lower.2)

  -- a draw of n empties the one below before it takes from the one above
  pub record ChainDrawn (P : tapped.Ghosts A) (Q : tapped.Ghosts B) (s : Chain A B G H) (n : ℕ) (t : Chain A B G H) : Type 0 where
    pub below : Q.draws s.below (min n (H.holds s.below)) t.below
    pub above : P.draws s.above (n - H.holds s.below) t.above
