-- The law of the book, over every list of calls on any number of basins. Lists have the latest first.
-- A basin is known here by its view (specs/Views.antt), so that basins over different banks and channels stand in one list. What a call does is a
-- relation C between the view before, the call with its answer, and the view after: specs/Calls.antt has the one that the
-- contracts of the calls cite, and the contract of opening a basin states the law of it.
use Rattle.std.specs.Prelude.{◌≡◌, ℕ, ◌+◌, ◌-◌, ◌*◌, ◌<◌, ◌≤◌, ◌⊎◌, List, [], ◌∷◌, length, Ok, Err, MatchResult, slice_index}
use Rattle.storages.specs.Meaning.{top}
use Rattle.banks.specs.Rows.{at, areas, Bounded}
use Rattle.basin.specs.Lists.{All, total, One, Less}
pub use Rattle.basin.specs.Views.{View, held, Entry, by_rain, by_turn, by_draw, by_pour, by_closing, by_question, sums_of, fresh, granted}
use Rattle.basin.specs.declared.book.Sums.{Sums}
use Rattle.basin.specs.declared.parcel.Parcel.{Parcel}

-- all that came in is all that went out and what is held
abbrev pub Even : Sums → ℕ → Type 0
Even s water = s.opening + s.rain + s.poured ≡ s.streamflow + s.evaporated + s.deep + s.drawn + water

-- what an entry adds to sums, by the areas of the segments
abbrev pub added : List ℕ → Entry → Sums → Sums
added acres (by_rain k depth demand r) s = granted r s (λ o. sums_of s.opening (s.rain + depth * slice_index acres k) s.streamflow (s.evaporated + o.1) (s.deep + o.2) s.drawn s.poured)
added acres (by_turn flow deep) s = sums_of s.opening s.rain (s.streamflow + flow) s.evaporated (s.deep + deep) s.drawn s.poured
added acres (by_draw n r) s = granted r s (λ p. sums_of s.opening s.rain s.streamflow s.evaporated s.deep (s.drawn + n) s.poured)
added acres (by_pour n r) s = granted r s (λ u. sums_of s.opening s.rain s.streamflow s.evaporated s.deep s.drawn (s.poured + n))
added acres (by_closing b) s = s
added acres (by_question b) s = s

-- the same, where a closing starts the sums anew with what they leave to be held
abbrev pub renewed : List ℕ → Entry → Sums → Sums
renewed acres (by_rain k depth demand r) s = added acres (by_rain k depth demand r) s
renewed acres (by_turn flow deep) s = added acres (by_turn flow deep) s
renewed acres (by_draw n r) s = added acres (by_draw n r) s
renewed acres (by_pour n r) s = added acres (by_pour n r) s
renewed acres (by_closing b) s = fresh (s.opening + s.rain + s.poured - s.streamflow - s.evaporated - s.deep - s.drawn)
renewed acres (by_question b) s = s

-- the tally of a list of entries: it is fed areas and the water held at opening, and never sees the basin
abbrev pub tally : (List ℕ → Entry → Sums → Sums) → List ℕ → ℕ → List Entry → Sums
tally f acres water [] = fresh water
tally f acres water (e ∷ es) = f acres e (tally f acres water es)

-- a basin as it was opened, the calls on it, and as it stands; its tally over all calls, and since the last closing
pub record Story : Type 0 where
  pub opened : View
  pub entries : List Entry
  pub stands : View

abbrev pub whole : Story → Sums
whole s = tally added (areas s.opened.tracts) (held s.opened) s.entries

abbrev pub since : Story → Sums
since s = tally renewed (areas s.opened.tracts) (held s.opened) s.entries

-- a basin as opening leaves it
pub record New (v : View) : Type 0 where
  pub bounded : Bounded v.tracts
  pub pocket : v.pocket ≡ 0
  pub room : held v ≤ v.ceiling
  pub small : v.ceiling ≤ top
  pub sums : v.sums ≡ fresh (held v)

-- the stories of all basins, the parcels at hand, and the water booked out
pub record State : Type 0 where
  pub stories : List Story
  pub parcels : List Parcel
  pub booked : ℕ

abbrev pub nothing : State
nothing = record { stories = []; parcels = []; booked = 0 }

-- a basin that is newly opened joins
abbrev pub joined : View → State → State
joined v s = record { stories = record { opened = v; entries = []; stands = v } ∷ s.stories; parcels = s.parcels; booked = s.booked }

-- one more call in a story
pub record Goes (C : View → Entry → View → Type 0) (e : Entry) (s t : Story) : Type 0 where
  pub told : t ≡ record { opened = s.opened; entries = e ∷ s.entries; stands = t.stands }
  pub called : C s.stands e t.stands

-- the parcels at hand before and after a call: a granted draw brings one, a granted pour empties one
abbrev pub Hands : Entry → List Parcel → List Parcel → Type 0
Hands (by_rain k depth demand r) ps qs = qs ≡ ps
Hands (by_turn flow deep) ps qs = qs ≡ ps
Hands (by_draw n r) ps qs = MatchResult r (λ p. Less p qs ps) (λ f. qs ≡ ps)
Hands (by_pour n r) ps qs = MatchResult r (λ u. One (λ p q. (p.amount ≡ n) × (q.amount ≡ 0)) ps qs) (λ f. qs ≡ ps)
Hands (by_closing b) ps qs = qs ≡ ps
Hands (by_question b) ps qs = qs ≡ ps

-- booking a parcel answers its amount
abbrev pub Booked : Parcel → ℕ → Type 0
Booked p n = n ≡ p.amount

-- a basin is opened, one is called, or a parcel is booked, with the answer; an empty parcel that is let go counts as booked for 0
pub data Happening : Type 0 where
  opening : View → Happening
  call : Entry → Happening
  booking : Parcel → ℕ → Happening

abbrev pub Happens : (View → Entry → View → Type 0) → Happening → State → State → Type 0
Happens C (opening v) s t = New v × (t ≡ joined v s)
Happens C (call e) s t = One (Goes C e) s.stories t.stories × Hands e s.parcels t.parcels × (t.booked ≡ s.booked)
Happens C (booking p n) s t = Booked p n × (t.stories ≡ s.stories) × Less p s.parcels t.parcels × (t.booked ≡ s.booked + n)

abbrev pub Ran : (View → Entry → View → Type 0) → List Happening → State → State → Type 0
Ran C [] s t = t ≡ s
Ran C (h ∷ hs) s t = (u : State) × Ran C hs s u × Happens C h u t

-- balance: a basin's whole tally and what it holds are even; its book is the tally since the last closing, and even too
pub record Balanced (s : Story) : Type 0 where
  pub even : Even (whole s) (held s.stands)
  pub book : s.stands.sums ≡ since s
  pub running : Even (since s) (held s.stands)

-- the area of a segment; the most rain and poured water of one book
abbrev pub acre : Story → ℕ → ℕ
acre s k = slice_index (areas s.opened.tracts) k

abbrev pub page : ℕ
page = 1000000000000000

-- the deepest rain of an hour, and the most that the air may take up in one
abbrev pub deepest : ℕ
deepest = 15000000

abbrev pub driest : ℕ
driest = 1000000

-- a rain that would pass the segment's ceiling, the basin's ceiling or the book's limit
abbrev pub Over : Story → ℕ → ℕ → Type 0
Over s k depth = ((at s.stands.tracts k).ceiling < (at s.stands.tracts k).content + depth)
    ⊎ ((s.stands.ceiling < held s.stands + depth * acre s k) ⊎ (page < (since s).rain + (since s).poured + depth * acre s k))

-- what the next call may answer, and how it may leave the basin
abbrev pub Rules : Story → Entry → View → Type 0
Rules s (by_rain k depth demand (Ok o)) w = (o.1 ≤ demand * acre s k) × (Over s k depth → ⊥)
Rules s (by_rain k depth demand (Err f)) w = (w ≡ s.stands) × (k < length s.opened.tracts → depth ≤ deepest → demand ≤ driest → Over s k depth)
Rules s (by_turn flow deep) w = flow + deep ≤ s.stands.pocket + s.stands.channel
Rules s (by_draw n (Ok p)) w = (p.amount ≡ n) × (0 < n) × (n ≤ s.stands.channel)
Rules s (by_draw n (Err f)) w = (w ≡ s.stands) × (0 < n → s.stands.channel < n)
Rules s (by_pour n (Ok u)) w = 0 < n
Rules s (by_pour n (Err f)) w = w ≡ s.stands
Rules s (by_closing b) w = b ≡ record { sums = since s; held = held s.stands }
Rules s (by_question b) w = (w ≡ s.stands) × (b ≡ record { sums = since s; held = held s.stands })

-- balance of every basin; drawn water is poured, booked out or still in parcels; every call that comes next keeps its rules
pub record Lawful (C : View → Entry → View → Type 0) (t : State) : Type 0 where
  pub balance : All Balanced t.stories
  pub parcels : total (λ s. (whole s).drawn) t.stories ≡ total (λ s. (whole s).poured) t.stories + t.booked + total (λ p. p.amount) t.parcels
  pub next : All (λ s. (e : Entry) (w : View) → C s.stands e w → Rules s e w) t.stories

-- the law of a basin that is newly opened: whatever ran before, it joins, and whatever happens after leads to what is lawful
abbrev pub Law : (View → Entry → View → Type 0) → View → Type 0
Law C v = (before : List Happening) (s : State) → Ran C before nothing s → (after : List Happening) (t : State) → Ran C after (joined v s) t → Lawful C t
