-- A segment: the land of a checked card over any three storages.
use Rattle.std.specs.Prelude.{◌≡◌, ℕ, ◌+◌, min, List, [], ◌∷◌}
use Rattle.refusals.specs.Limits.{Limit, limit}
use Rattle.refusals.specs.declared.Refusal.TheVariants.{JoinedContents}
use Rattle.storages.specs.Meaning.{Out, Stepped}
use Rattle.storages.specs.declared.meaning.Storage as storage
use Rattle.card.specs.declared.checked.Card.{Card}
use Rattle.land.specs.declared.segment.Segment.{Segment}
use Rattle.land.specs.declared.water.Flows.{Flows}
use Rattle.land.specs.Hour.{Hour, still, least_of}

-- the content: the sum of the six
abbrev pub six : {S I G : Type 0} → (A : storage.Ghosts S) → (B : storage.Ghosts I) → (C : storage.Ghosts G) → Segment S I G A B C → ℕ
six A B C s = still s.zones + A.holds s.slope + B.holds s.interflow + C.holds s.groundwater

-- the ceiling: the least of the three ceilings and 10^8
abbrev pub least : {S I G : Type 0} → (A : storage.Ghosts S) → (B : storage.Ghosts I) → (C : storage.Ghosts G) → Segment S I G A B C → ℕ
least A B C s = least_of (A.limit s.slope) (B.limit s.interflow) (C.limit s.groundwater)

-- the joined contents fit the ceiling
abbrev pub segment_limits : (content ceiling : ℕ) → List Limit
segment_limits content ceiling = limit content ceiling JoinedContents ∷ []

-- dry land over three storages
pub record Bare {S I G : Type 0} (A : storage.Ghosts S) (B : storage.Ghosts I) (C : storage.Ghosts G) (f : Card) (a : S) (b : I) (c : G) (s : Segment S I G A B C) : Type 0 where
  pub card : s.card ≡ f
  pub zones : s.zones ≡ record { interception = 0; upper = 0; lower = 0 }
  pub slope : s.slope ≡ a
  pub interflow : s.interflow ≡ b
  pub groundwater : s.groundwater ≡ c

-- a granted hour: the land by its rules, and each storage by a step of its own with the inflow and the demand that the hour gives it
pub record Hours {S I G : Type 0} (A : storage.Ghosts S) (B : storage.Ghosts I) (C : storage.Ghosts G) (s : Segment S I G A B C) (p d : ℕ) (o : Out) (t : Segment S I G A B C) : Type 0 where
  pub flows : Flows
  pub land : Hour s.card s.zones p (min d 100000000) flows
  pub slope : Out
  pub interflow : Out
  pub groundwater : Out
  pub overland : A.steps s.slope flows.slope 0 slope t.slope
  pub between : B.steps s.interflow flows.interflow 0 interflow t.interflow
  pub below : C.steps s.groundwater flows.groundwater flows.demand groundwater t.groundwater
  pub zones : t.zones ≡ flows.zones
  pub card : t.card ≡ s.card
  pub release : o.0 ≡ flows.runoff + slope.0 + interflow.0 + groundwater.0
  pub evaporated : o.1 ≡ flows.evaporated + slope.1 + interflow.1 + groundwater.1
  pub deep : o.2 ≡ slope.2 + interflow.2 + groundwater.2
  pub meaning : Stepped (six A B C s) (least A B C s) p d o (six A B C t) (least A B C t)

-- what a segment means as a storage
abbrev pub segment_means : {S I G : Type 0} → (A : storage.Ghosts S) → (B : storage.Ghosts I) → (C : storage.Ghosts G) → storage.Ghosts (Segment S I G A B C)
segment_means A B C = record { holds = six A B C; limit = least A B C; steps = Hours A B C }
