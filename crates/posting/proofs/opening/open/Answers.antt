-- The card's check has no refusal, and the basin is that of its figures; the law of its feeds is that of any basin newly opened.
use Rattle.basin.specs.Basins.{view}
use Rattle.posting.specs.Cards.{plots, channels}
use Rattle.posting.proofs.Feeds.{feed_law}
use Rattle.posting.proofs.opening.open.Goals as goal

pub returns : goal.returns
returns c = record {
  refusal = c.in_ok-card.ensures.refusal;
  opened = record { card = c.in_ok-card.card; figures = c.in_ok-card.ensures.figures; opened = c.basin_of.ensures };
  law = feed_law (view plots channels c.basin_of.result) c.basin_of.ensures.new;
}
