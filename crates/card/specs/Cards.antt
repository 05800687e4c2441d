-- What a check answers: the figures of a good card, or the first rule that a bad one breaks.
--   Ranged ws k vs         the figures vs from place k on are within the ranges of the words ws
--   Holds vs c             the figures of c are vs, in the order of the words
--   Says card name v       a record of the card has this name, and its figure is v
--   Figures card c         c has the figures that the card says
--   first_fault card i n   the first rule that one of the n records from i on breaks
--   records_fault card     the first rule that one of the fourteen records breaks
--   fault_of card          the first rule that a card breaks, its length before all else
use Rattle.std.specs.Prelude.{◌≡◌, ℕ, zero, suc, ◌+◌, ◌<◌, ◌≤◌, cond, List, [], ◌∷◌, length, Some, None, Ok, Err, codes, Option, Result, ◌==◌, slice_index}
use Rattle.refusals.specs.declared.Refusal.{Refusal}
use Rattle.refusals.specs.declared.Refusal.TheVariants.{CardLength}
use Rattle.card.specs.declared.checked.Card.{Card}
use Rattle.card.specs.declared.words.Word.{Word}
use Rattle.card.specs.Figures.{figure_of}
use Rattle.card.specs.Fields.{name_at, figure_at}
use Rattle.card.specs.Entries.{entry_at}

abbrev pub Ranged : List Word → ℕ → List ℕ → Type 0
Ranged [] k vs = Unit {0}
Ranged (w ∷ ws) k vs = (w.least ≤ slice_index vs k) × (slice_index vs k ≤ w.most) × Ranged ws (suc k) vs

pub record Holds (vs : List ℕ) (c : Card) : Type 0 where
  pub area : c.area ≡ slice_index vs 0
  pub impv : c.impv ≡ slice_index vs 1
  pub cepsc : c.cepsc ≡ slice_index vs 2
  pub uzsn : c.uzsn ≡ slice_index vs 3
  pub lzsn : c.lzsn ≡ slice_index vs 4
  pub infilt : c.infilt ≡ slice_index vs 5
  pub intfw : c.intfw ≡ slice_index vs 6
  pub lzetp : c.lzetp ≡ slice_index vs 7
  pub deepfr : c.deepfr ≡ slice_index vs 8
  pub agwetp : c.agwetp ≡ slice_index vs 9
  pub ovk : c.ovk ≡ slice_index vs 10
  pub ifwk : c.ifwk ≡ slice_index vs 11
  pub gwk : c.gwk ≡ slice_index vs 12
  pub chk : c.chk ≡ slice_index vs 13

abbrev pub Says : List ℕ → List ℕ → ℕ → Type 0
Says card name v = (i : ℕ) × (i < 14) × (name_at card i ≡ name) × (figure_of (figure_at card i) ≡ Some v)

pub record Figures (card : List ℕ) (c : Card) : Type 0 where
  pub area : Says card (codes "AREA    ") c.area
  pub impv : Says card (codes "IMPV    ") c.impv
  pub cepsc : Says card (codes "CEPSC   ") c.cepsc
  pub uzsn : Says card (codes "UZSN    ") c.uzsn
  pub lzsn : Says card (codes "LZSN    ") c.lzsn
  pub infilt : Says card (codes "INFILT  ") c.infilt
  pub intfw : Says card (codes "INTFW   ") c.intfw
  pub lzetp : Says card (codes "LZETP   ") c.lzetp
  pub deepfr : Says card (codes "DEEPFR  ") c.deepfr
  pub agwetp : Says card (codes "AGWETP  ") c.agwetp
  pub ovk : Says card (codes "OVK     ") c.ovk
  pub ifwk : Says card (codes "IFWK    ") c.ifwk
  pub gwk : Says card (codes "GWK     ") c.gwk
  pub chk : Says card (codes "CHK     ") c.chk

-- a record's refusal, or that of the records after it
abbrev pub fault_then : Result (ℕ × ℕ) Refusal → Option Refusal → Option Refusal
fault_then (Err f) g = Some f
fault_then (Ok e) g = g

abbrev pub first_fault : List ℕ → ℕ → ℕ → Option Refusal
first_fault card i zero = None
first_fault card i (suc n) = fault_then (entry_at card i) (first_fault card (i + 1) n)

unfoldable pub records_fault : List ℕ → Option Refusal
records_fault card = first_fault card 0 14

abbrev pub fault_of : List ℕ → Option Refusal
fault_of card = cond (length card == 280) (records_fault card) (Some CardLength)
