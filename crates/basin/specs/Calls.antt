-- What each call does to what can be seen of a basin, and when it is refused.
use Rattle.std.specs.Prelude.{◌≡◌, ℕ, ◌+◌, ◌*◌, List, [], ◌∷◌, length, Ok}
use Rattle.refusals.specs.Limits.{Limit, limit, Answers}
use Rattle.refusals.specs.declared.Refusal.TheVariants.{OpeningAboveCeiling, NoSuchSegment, RainAboveLimit, DemandAboveLimit, StorageFull, BasinFull, BookFull, DrawAmount, EmptyParcel}
use Rattle.storages.specs.Meaning.{Out}
use Rattle.banks.specs.declared.tract.Tract.{Tract}
use Rattle.banks.specs.Rows.{at, areas, volume, Rained}
use Rattle.basin.specs.Law.{View, Entry, by_rain, by_turn, by_draw, by_pour, by_closing, by_question, held, fresh, added, page, deepest, driest}
use Rattle.basin.specs.declared.book.Book.{Book}
use Rattle.basin.specs.declared.parcel.Parcel.{Parcel}

-- opening: the water on the bank and in the channel fits the channel's ceiling
abbrev pub opening_limits : List Tract → (channel ceiling : ℕ) → List Limit
opening_limits ts channel ceiling = limit (volume ts + channel) ceiling OpeningAboveCeiling ∷ []

-- the new water of a rain: depth times area
abbrev pub fall : View → (k depth : ℕ) → ℕ
fall v k depth = depth * (at v.tracts k).area

-- three depths over an area
abbrev pub over : ℕ → Out → Out
over area o = (o.0 * area, o.1 * area, o.2 * area)

-- new water fits the basin, whose ceiling is its channel's, and the book
abbrev pub water_limits : View → (water place : ℕ) → List Limit
water_limits v water place = limit (held v + water) v.ceiling (BasinFull place)
    ∷ limit (v.sums.rain + v.sums.poured + water) page (BookFull place) ∷ []

abbrev pub rain_limits : View → (k depth demand : ℕ) → List Limit
rain_limits v k depth demand = limit (k + 1) (length v.tracts) (NoSuchSegment k)
    ∷ limit depth deepest (RainAboveLimit k)
    ∷ limit demand driest (DemandAboveLimit k)
    ∷ limit ((at v.tracts k).content + depth) (at v.tracts k).ceiling (StorageFull k)
    ∷ water_limits v (fall v k depth) k

pub record Rains (v : View) (k depth demand : ℕ) (o : Out) (w : View) : Type 0 where
  pub depths : Out
  pub rained : Rained v.tracts k depth demand depths w.tracts
  pub answer : o ≡ over (at v.tracts k).area depths
  pub pocket : w.pocket ≡ v.pocket + o.0
  pub channel : w.channel ≡ v.channel
  pub ceiling : w.ceiling ≡ v.ceiling
  pub sums : w.sums ≡ added (areas v.tracts) (by_rain k depth demand (Ok o)) v.sums

-- the channel takes the pocket; a turn is never refused
pub record Turns (v : View) (flow deep : ℕ) (w : View) : Type 0 where
  pub tracts : w.tracts ≡ v.tracts
  pub pocket : w.pocket ≡ 0
  pub channel : w.channel + flow + deep ≡ v.channel + v.pocket
  pub ceiling : w.ceiling ≡ v.ceiling
  pub sums : w.sums ≡ added (areas v.tracts) (by_turn flow deep) v.sums

abbrev pub draw_limits : View → ℕ → List Limit
draw_limits v n = limit 1 n DrawAmount ∷ limit n v.channel DrawAmount ∷ []

pub record Draws (v : View) (n : ℕ) (p : Parcel) (w : View) : Type 0 where
  pub parcel : p.amount ≡ n
  pub tracts : w.tracts ≡ v.tracts
  pub pocket : w.pocket ≡ v.pocket
  pub channel : w.channel + n ≡ v.channel
  pub ceiling : w.ceiling ≡ v.ceiling
  pub sums : w.sums ≡ added (areas v.tracts) (by_draw n (Ok p)) v.sums

abbrev pub pour_limits : View → ℕ → List Limit
pour_limits v n = limit 1 n EmptyParcel ∷ water_limits v n 0

pub record Pours (v : View) (n : ℕ) (w : View) : Type 0 where
  pub tracts : w.tracts ≡ v.tracts
  pub pocket : w.pocket ≡ v.pocket + n
  pub channel : w.channel ≡ v.channel
  pub ceiling : w.ceiling ≡ v.ceiling
  pub sums : w.sums ≡ added (areas v.tracts) (by_pour n (Ok tt)) v.sums

-- the book as it stands: its sums and the water held
abbrev pub book_of : View → Book
book_of v = record { sums = v.sums; held = held v }

-- the next book opens with all water held
pub record Closes (v : View) (b : Book) (w : View) : Type 0 where
  pub answer : b ≡ book_of v
  pub tracts : w.tracts ≡ v.tracts
  pub pocket : w.pocket ≡ v.pocket
  pub channel : w.channel ≡ v.channel
  pub ceiling : w.ceiling ≡ v.ceiling
  pub sums : w.sums ≡ fresh (held v)

-- a call, with its answer, takes a basin from one view to another; a refusal alters nothing
abbrev pub Called : View → Entry → View → Type 0
Called v (by_rain k depth demand r) w = Answers (rain_limits v k depth demand) r (λ o. Rains v k depth demand o w) (w ≡ v)
Called v (by_turn flow deep) w = Turns v flow deep w
Called v (by_draw n r) w = Answers (draw_limits v n) r (λ p. Draws v n p w) (w ≡ v)
Called v (by_pour n r) w = Answers (pour_limits v n) r (λ _. Pours v n w) (w ≡ v)
Called v (by_closing b) w = Closes v b w
Called v (by_question b) w = (b ≡ book_of v) × (w ≡ v)
