-- Whole feeds: what a list of records leads to, and the law of what is printed.
--   record_at feed i   record i of a feed; the last may be short
--   count feed         how many records it has
--   Fed                the first records of a feed lead from one view of a basin to another, with their lines (the latest first)
--   texts ls           the bytes of such lines, in their order
--   Tells              each line is that of a record that cannot be read, or that of the call which the record asks for
use Rattle.std.specs.Prelude.{◌≡◌, ℕ, ◌+◌, ◌*◌, ◌/◌, ◌≤◌, List, [], ◌∷◌, ◌++◌, map, length, take, drop, Ok, Err}
use Rattle.refusals.specs.Limits.{Limit, limit}
use Rattle.refusals.specs.Notices.{notice_of}
use Rattle.refusals.specs.declared.Refusal.{Refusal}
use Rattle.refusals.specs.declared.Refusal.TheVariants.{ShortBuffer}
use Rattle.basin.specs.Law.{View, Entry, State, nothing, joined, call, Ran, Lawful}
use Rattle.basin.specs.Calls.{Called}
use Rattle.feed.specs.Reading.{reading}
use Rattle.feed.specs.declared.Event.{Event}
use Rattle.lines.specs.Text.{text}
use Rattle.lines.specs.declared.Line.{Line}
use Rattle.lines.specs.declared.Line.TheVariants as line
use Rattle.posting.specs.Posting.{Answered, Posted}

abbrev pub record_at : List ℕ → ℕ → List ℕ
record_at feed i = take 16 (drop (16 * i) feed)

abbrev pub count : List ℕ → ℕ
count feed = (length feed + 15) / 16

-- a page has 192 bytes for each record of a block
abbrev pub page_limits : List ℕ → List ℕ → List Limit
page_limits block page = limit (192 * count block) (length page) ShortBuffer ∷ []

pub data Fed (feed : List ℕ) (v : View) : ℕ → List Line → View → Type 0 where
  none : Fed feed v 0 [] v
  more : {i : ℕ} {ls : List Line} {u : View} {l : Line} {w : View} → Fed feed v i ls u → Posted u (record_at feed i) l w → Fed feed v (i + 1) (l ∷ ls) w

abbrev pub texts : List Line → List ℕ
texts [] = []
texts (l ∷ ls) = texts ls ++ text l

-- a block posted onto a page: its lines stand at the front, and whatever feed came before goes on with this block
pub record Filled (v : View) (block old : List ℕ) (n : ℕ) (new : List ℕ) (w : View) : Type 0 where
  pub lines : List Line
  pub size : n ≡ length (texts lines)
  pub fits : n ≤ length old
  pub bytes : new ≡ texts lines ++ drop n old
  pub fed : Fed block v (count block) lines w
  pub onward : (o : View) (feed : List ℕ) (i : ℕ) (ls : List Line) → length feed ≡ 16 * i → Fed feed o i ls v → Fed (feed ++ block) o (i + count block) (lines ++ ls) w

pub data Tells (feed : List ℕ) : ℕ → List Line → List Entry → Type 0 where
  none : Tells feed 0 [] []
  unread : {i : ℕ} {ls : List Line} {es : List Entry} (f : Refusal) → Tells feed i ls es → reading (record_at feed i) ≡ Err f → Tells feed (i + 1) (line.Refused (notice_of f) ∷ ls) es
  made : {i : ℕ} {ls : List Line} {es : List Entry} (ev : Event) (e : Entry) (l : Line) → Tells feed i ls es → reading (record_at feed i) ≡ Ok ev → Answered (λ x. x ≡ e) ev l → Tells feed (i + 1) (l ∷ ls) (e ∷ es)

-- a basin alone, without parcels
abbrev pub alone : View → List Entry → View → State
alone o es v = record { stories = record { opened = o; entries = es; stands = v } ∷ []; parcels = []; booked = 0 }

-- the lines of a feed are those of a run of calls on the basin that was opened, and the law of the book holds of them
pub record Kept (feed : List ℕ) (n : ℕ) (ls : List Line) (v w : View) : Type 0 where
  pub entries : List Entry
  pub lines : Tells feed n ls entries
  pub run : Ran Called (map call entries) (joined v nothing) (alone v entries w)
  pub lawful : Lawful Called (alone v entries w)

abbrev pub FeedLaw : View → Type 0
FeedLaw v = (feed : List ℕ) (n : ℕ) (ls : List Line) (w : View) → Fed feed v n ls w → Kept feed n ls v w
