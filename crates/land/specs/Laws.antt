-- What is always so of an hour, whatever the card, the zones, the rain and the demand.
use Rattle.std.specs.Prelude.{◌≡◌, ℕ, ◌+◌, ◌-◌, ◌≤◌, List, [], ◌∷◌, sum}
use Rattle.figures.specs.Share.{share}
use Rattle.card.specs.declared.checked.Card.{Card}
use Rattle.land.specs.declared.water.Zones.{Zones}
use Rattle.land.specs.declared.water.Flows.{Flows}
use Rattle.land.specs.Hour.{Hour, percolation_of, reach_of, wetness_of, still, sent}

-- the headings under which rain is entered: run-off, interception, infiltration, interflow, upper zone, overland flow
abbrev pub headings : {f : Card} {z : Zones} {p e : ℕ} {r : Flows} → Hour f z p e r → List ℕ
headings {z = z} {r = r} h = h.surface.runoff ∷ (h.surface.interception - z.interception) ∷ h.division.infiltration ∷ h.division.interflow ∷ h.kept ∷ r.slope ∷ []

pub record HourLaw (f : Card) (z : Zones) (p e : ℕ) (r : Flows) (h : Hour f z p e r) : Type 0 where
  -- the headings add up to the rain, so nothing stands under two
  pub rain : sum (headings h) ≡ p
  -- slope water is at most what did not infiltrate
  pub slope : h.division.slope + h.division.infiltration ≤ h.surface.supply
  -- interflow is never below zero: it is the whole of what infiltration leaves of the greater share
  pub interflow : h.division.infiltration + h.division.interflow ≡ share h.surface.supply (reach_of f (wetness_of f z.lower))
  -- the parts to groundwater and to the lower zone add up to infiltration plus percolation
  pub seepage : h.seepage.groundwater + h.seepage.lower ≡ h.division.infiltration + percolation_of f (z.upper + h.kept) z.lower + z.lower
  -- the hour evaporates, and asks of groundwater, at most its demand
  pub evaporation : r.evaporated + r.demand ≤ e
  -- what the zones held, and the rain, is what they hold then and what left them
  pub balance : still r.zones + sent r ≡ still z + p

abbrev pub HourLaws : Type 0
HourLaws = (f : Card) (z : Zones) (p e : ℕ) (r : Flows) (h : Hour f z p e r) → HourLaw f z p e r h
