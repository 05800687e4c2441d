-- A river: a leak over two reaches with a delay behind them.
--   RiverOf        the type
--   river_means    what a river means as a storage, by what its parts mean
--   river_tap      how water is drawn from it, likewise
--   river_limits   what a river may be made of
--   NewRiver       a river that was just made
use Rattle.std.specs.Prelude.{◌≡◌, ℕ, List, ◌++◌}
use Rattle.refusals.specs.Limits.{Limit}
use Rattle.storages.specs.Leak.{leak_limits}
use Rattle.storages.specs.Meaning.{recession_limits}
use Rattle.storages.specs.Nested.{leaking, leak_tap, chaining, chain_tap}
use Rattle.storages.specs.contracts.recession.RecessionStorage.TheImpl as recession
use Rattle.storages.specs.contracts.recession.RecessionTapped.TheImpl as recession_tap
use Rattle.storages.specs.declared.chain.Chain.{Chain}
use Rattle.storages.specs.declared.leak.Leak.{Leak}
use Rattle.storages.specs.declared.meaning.Storage as storage
use Rattle.storages.specs.declared.meaning.Tapped as tapped
use Rattle.storages.specs.declared.recession.Recession.{Recession}
use Rattle.delay.specs.Hours.{delay_limits, padded}
use Rattle.delay.specs.contracts.delay.DelayStorage.TheImpl as delay
use Rattle.delay.specs.contracts.delay.DelayTapped.TheImpl as delay_tap
use Rattle.delay.specs.declared.delay.Delay.{Delay}

abbrev pub reaches : storage.Ghosts (Chain Recession Recession recession.ghosts recession.ghosts)
reaches = chaining recession.ghosts recession.ghosts

abbrev pub RiverOf : Type 0
RiverOf = Leak (Chain (Chain Recession Recession recession.ghosts recession.ghosts) Delay reaches delay.ghosts) (chaining reaches delay.ghosts)

abbrev pub river_means : storage.Ghosts RiverOf
river_means = leaking (chaining reaches delay.ghosts)

abbrev pub river_tap : tapped.Ghosts RiverOf
river_tap = leak_tap (chaining reaches delay.ghosts) (chain_tap reaches delay.ghosts (chain_tap recession.ghosts recession.ghosts recession_tap.ghosts recession_tap.ghosts) delay_tap.ghosts)

-- two rates, weights, a loss, and one ceiling for all
abbrev pub river_limits : (upper lower : ℕ) (weights : List ℕ) (loss ceiling : ℕ) → List Limit
river_limits upper lower ws loss ceiling =
    recession_limits upper ceiling ++ (recession_limits lower ceiling ++ (delay_limits ws ceiling ++ leak_limits loss))

-- an empty river of these figures
pub record NewRiver (u l : ℕ) (ws : List ℕ) (f m : ℕ) (s : RiverOf) : Type 0 where
  pub content : river_means.holds s ≡ 0
  pub ceiling : river_means.limit s ≡ m
  pub upper : s.below.above.above.rate.parts ≡ u
  pub lower : s.below.above.below.rate.parts ≡ l
  pub weights : s.below.below.weights ≡ padded ws
  pub upper_ceiling : s.below.above.above.ceiling ≡ m
  pub lower_ceiling : s.below.above.below.ceiling ≡ m
  pub bed_ceiling : s.below.below.ceiling ≡ m
  pub loss : s.loss.parts ≡ f
