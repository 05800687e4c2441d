-- What posting a record does: the call that it asks for, and the line of the answer.
--   rain_line k r       the line of a rain on segment k with its answer
--   Answered Did ev l   a call that the event asks for was made, and the line tells its answer
--   Posts               a record takes a basin to another, and comes to a line
--   Written             the same, with the line at the front of a buffer
--   Posted              the same between what can be seen of the basin
use Rattle.std.specs.Prelude.{◌≡◌, ℕ, List, Ok, Err, Result, MatchResult}
use Rattle.refusals.specs.Notices.{notice_of}
use Rattle.refusals.specs.declared.Refusal.{Refusal}
use Rattle.storages.specs.Meaning.{Out}
use Rattle.storages.specs.declared.meaning.Storage as storage
use Rattle.storages.specs.declared.meaning.Tapped as tapped
use Rattle.banks.specs.declared.meaning.Bank as bank
use Rattle.basin.specs.Law.{View, Entry, by_rain, by_turn, by_closing}
use Rattle.basin.specs.Calls.{Called}
use Rattle.basin.specs.Basins.{view, Moved}
use Rattle.basin.specs.declared.basin.Basin.{Basin}
use Rattle.basin.specs.declared.book.Book.{Book}
use Rattle.feed.specs.Reading.{reading}
use Rattle.feed.specs.declared.Event.{Event}
use Rattle.feed.specs.declared.Event.TheVariants as event
use Rattle.lines.specs.Text.{text, Printed}
use Rattle.lines.specs.declared.Line.{Line}
use Rattle.lines.specs.declared.Line.TheVariants as line

-- the line of a rain: its volumes, or the refusal
abbrev pub rain_line : ℕ → Result Out Refusal → Line
rain_line k (Ok o) = line.Rain k o.0 o.1 o.2
rain_line k (Err f) = line.Refused (notice_of f)

-- a record that says this event, and the basin before and after it: the call was made, and the line tells its answer
abbrev pub Answered : (Entry → Type 0) → Event → Line → Type 0
Answered Did (event.Rain k depth demand) l = (r : Result Out Refusal) × Did (by_rain k depth demand r) × (l ≡ rain_line k r)
Answered Did event.Turn l = (flow : ℕ) × (deep : ℕ) × Did (by_turn flow deep) × (l ≡ line.Turn flow deep)
Answered Did event.Closing l = (b : Book) × Did (by_closing b) × (l ≡ line.Closing b)

-- a record that cannot be read is refused, and nothing happens
abbrev pub Posts : {B C : Type 0} → (G : bank.Ghosts B) → (S : storage.Ghosts C) → tapped.Ghosts C → Basin B C G S → List ℕ → Line → Basin B C G S → Type 0
Posts G S T b bytes l c = MatchResult (reading bytes) (λ ev. Answered (λ e. Called (view G S b) e (view G S c) × Moved G S T b e c) ev l) (λ f. (l ≡ line.Refused (notice_of f)) × (c ≡ b))

abbrev pub Posted : View → List ℕ → Line → View → Type 0
Posted v bytes l w = MatchResult (reading bytes) (λ ev. Answered (λ e. Called v e w) ev l) (λ f. (l ≡ line.Refused (notice_of f)) × (w ≡ v))

pub record Written {B C : Type 0} (G : bank.Ghosts B) (S : storage.Ghosts C) (T : tapped.Ghosts C) (b : Basin B C G S) (bytes old : List ℕ) (n : ℕ) (new : List ℕ) (c : Basin B C G S) : Type 0 where
  pub told : Line
  pub posts : Posts G S T b bytes told c
  pub printed : Printed (text told) old n new
