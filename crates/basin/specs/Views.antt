-- What can be seen of a basin, and the calls on it with their answers: the words in which the law of the book is said.
use Rattle.std.specs.Prelude.{ℕ, ◌+◌, List, Ok, Err, Result}
use Rattle.refusals.specs.declared.Refusal.{Refusal}
use Rattle.storages.specs.Meaning.{Out}
use Rattle.banks.specs.Rows.{volume}
use Rattle.banks.specs.declared.tract.Tract.{Tract}
use Rattle.basin.specs.declared.book.Book.{Book}
use Rattle.basin.specs.declared.book.Sums.{Sums}
use Rattle.basin.specs.declared.parcel.Parcel.{Parcel}

-- the segments, the water on its way to the channel, the channel's content and ceiling, and the sums of the open book
pub record View : Type 0 where
  pub tracts : List Tract
  pub pocket : ℕ
  pub channel : ℕ
  pub ceiling : ℕ
  pub sums : Sums

-- water held: on the segments, in the pocket and in the channel
abbrev pub held : View → ℕ
held v = volume v.tracts + v.pocket + v.channel

-- rain on a segment (depth, demand), turn (streamflow, deep), draw of an amount, pour of what a parcel held, closing, question
pub data Entry : Type 0 where
  by_rain : (k depth demand : ℕ) → Result Out Refusal → Entry
  by_turn : (flow deep : ℕ) → Entry
  by_draw : ℕ → Result Parcel Refusal → Entry
  by_pour : ℕ → Result (Unit {0}) Refusal → Entry
  by_closing : Book → Entry
  by_question : Book → Entry

-- the sums of a book, in their order; those of a book that begins with this water
abbrev pub sums_of : (opening rain streamflow evaporated deep drawn poured : ℕ) → Sums
sums_of o r f e d w p = record { opening = o; rain = r; streamflow = f; evaporated = e; deep = d; drawn = w; poured = p }

abbrev pub fresh : ℕ → Sums
fresh water = sums_of water 0 0 0 0 0 0

-- a refusal adds nothing
abbrev pub granted : {T : Type 0} → Result T Refusal → Sums → (T → Sums) → Sums
granted (Ok x) s f = f x
granted (Err e) s f = s
