-- The basin that a card opens.
--   lands, plots, channels   what the land, the plot and the channel of a card mean
--   Dry f s                  the land of a card f as it is made
--   Opened f b               the basin of a card f as it is opened
--   OpenedBy card b          b is the basin of the figures that a card's bytes say
use Rattle.std.specs.Prelude.{◌≡◌, ℕ, List}
use Rattle.storages.specs.declared.meaning.Storage as storage
use Rattle.storages.specs.declared.recession.Recession.{Recession}
use Rattle.storages.specs.declared.slope.Slope.{Slope}
use Rattle.storages.specs.declared.leak.Leak.{Leak}
use Rattle.storages.specs.contracts.recession.RecessionStorage.TheImpl as recession
use Rattle.storages.specs.contracts.slope.SlopeStorage.TheImpl as slope
use Rattle.storages.specs.Nested.{leaking}
use Rattle.banks.specs.Kinds.{plot_means}
use Rattle.banks.specs.declared.meaning.Bank as bank
use Rattle.banks.specs.declared.plot.Plot.{Plot}
use Rattle.basin.specs.Law.{New}
use Rattle.basin.specs.Basins.{view}
use Rattle.basin.specs.declared.basin.Basin.{Basin}
use Rattle.card.specs.Cards.{Figures}
use Rattle.card.specs.declared.checked.Card.{Card}
use Rattle.land.specs.Segments.{segment_means}
use Rattle.land.specs.declared.segment.Segment.{Segment}

abbrev pub channels : storage.Ghosts Recession
channels = recession.ghosts

abbrev pub leaks : storage.Ghosts (Leak Recession channels)
leaks = leaking channels

abbrev pub Land : Type 0
Land = Segment Slope Recession (Leak Recession channels) slope.ghosts channels leaks

abbrev pub lands : storage.Ghosts Land
lands = segment_means slope.ghosts channels leaks

abbrev pub plots : bank.Ghosts (Plot Land lands)
plots = plot_means lands

abbrev pub CardBasin : Type 0
CardBasin = Basin (Plot Land lands) Recession plots channels

-- an empty recession
pub record Idle (rate ceiling : ℕ) (s : Recession) : Type 0 where
  pub rated : s.rate.parts ≡ rate
  pub empty : s.content ≡ 0
  pub limited : s.ceiling ≡ ceiling

pub record Dry (f : Card) (s : Land) : Type 0 where
  pub card : s.card ≡ f
  pub interception : s.zones.interception ≡ 0
  pub upper : s.zones.upper ≡ 0
  pub lower : s.zones.lower ≡ 0
  pub overland : s.slope.rate ≡ f.ovk
  pub empty : s.slope.content ≡ 0
  pub interflow : Idle f.ifwk 100000000 s.interflow
  pub leak : s.groundwater.loss.parts ≡ f.deepfr
  pub groundwater : Idle f.gwk 100000000 s.groundwater.below

pub record Opened (f : Card) (b : CardBasin) : Type 0 where
  pub new : New (view plots channels b)
  pub area : b.bank.area ≡ f.area
  pub land : Dry f b.bank.storage
  pub channel : Idle f.chk 8000000000000 b.channel

pub record OpenedBy (bytes : List ℕ) (b : CardBasin) : Type 0 where
  pub card : Card
  pub figures : Figures bytes card
  pub opened : Opened card b
