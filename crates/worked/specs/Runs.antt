-- A day in the books of two basins, and a year that fills a book, both worked out by hand. They show that what the law of the book
-- speaks of is there to be met: basins as opening leaves them, runs, each kind of call granted, and each refusal of a call.
use Rattle.std.specs.Prelude.{◌≡◌, ℕ, zero, suc, List, [], ◌∷◌, Ok, Err}
use Rattle.refusals.specs.declared.Refusal.TheVariants.{NoSuchSegment, RainAboveLimit, DemandAboveLimit, StorageFull, BasinFull, BookFull, DrawAmount, EmptyParcel}
use Rattle.banks.specs.Rows.{tract}
use Rattle.basin.specs.Law.{View, by_rain, by_turn, by_draw, by_pour, by_closing, by_question, sums_of, fresh, State, nothing, Happening, opening, call, booking, Ran}
use Rattle.basin.specs.Calls.{Called}
use Rattle.basin.specs.declared.book.Sums.{Sums}
use Rattle.basin.specs.declared.parcel.Parcel.{Parcel}

-- a basin over one plot of ten acres: what the plot, the pocket and the channel hold, and the sums of its book
abbrev pub small : (content pocket channel : ℕ) → Sums → View
small c p w s = record { tracts = tract 10 c 1000 ∷ []; pocket = p; channel = w; ceiling = 12000; sums = s }

-- a basin over the greatest plot, which keeps nothing
abbrev pub great : (pocket channel : ℕ) → Sums → View
great p w s = record { tracts = tract 5000 0 100000000 ∷ []; pocket = p; channel = w; ceiling = 8000000000000; sums = s }

abbrev pub parcel : ℕ → Parcel
parcel n = record { amount = n }

-- The day, the latest first. The small basin: four rains refused, one granted, one for which there is no room; a turn; draws refused
-- and granted. The great basin: a pour of nothing refused, and a parcel of the small basin poured. A parcel of the great basin, for
-- which the small one has no room, and which is booked; a closing and a question.
abbrev pub the_day : List Happening
the_day =
    call (by_question (record { sums = fresh 4500; held = 4500 }))
    ∷ call (by_closing (record { sums = sums_of 0 10000 2250 1000 0 2250 0; held = 4500 }))
    ∷ booking (parcel 50000) 50000
    ∷ call (by_pour 50000 (Err (BasinFull 0)))
    ∷ call (by_draw 50000 (Ok (parcel 50000)))
    ∷ call (by_turn 1250 0)
    ∷ call (by_rain 0 10 0 (Ok (50000, 0, 0)))
    ∷ booking (parcel 1000) 1000
    ∷ call (by_draw 1000 (Ok (parcel 1000)))
    ∷ booking (parcel 0) 0
    ∷ call (by_pour 1250 (Ok tt))
    ∷ call (by_pour 0 (Err EmptyParcel))
    ∷ opening (great 0 0 (fresh 0))
    ∷ call (by_draw 1250 (Ok (parcel 1250)))
    ∷ call (by_draw 2251 (Err DrawAmount))
    ∷ call (by_draw 0 (Err DrawAmount))
    ∷ call (by_turn 2250 0)
    ∷ call (by_rain 0 400 0 (Err (BasinFull 0)))
    ∷ call (by_rain 0 1000 100 (Ok (4500, 1000, 0)))
    ∷ call (by_rain 0 1001 0 (Err (StorageFull 0)))
    ∷ call (by_rain 0 0 1000001 (Err (DemandAboveLimit 0)))
    ∷ call (by_rain 0 15000001 0 (Err (RainAboveLimit 0)))
    ∷ call (by_rain 1 0 0 (Err (NoSuchSegment 1)))
    ∷ opening (small 0 0 0 (fresh 0))
    ∷ []

-- n rounds of the great basin: the deepest rain there can be, and a turn by which all of it flows out
abbrev pub rounds : ℕ → List Happening
rounds zero = opening (great 0 0 (fresh 0)) ∷ []
rounds (suc n) = call (by_turn 75000000000 0) ∷ call (by_rain 0 15000000 0 (Ok (75000000000, 0, 0))) ∷ rounds n

-- rounds, and then a rain that fills the book to its last unit; a pour and a rain after it are refused
abbrev pub the_year : ℕ → List Happening
the_year n =
    call (by_rain 0 1 0 (Err (BookFull 0)))
    ∷ call (by_pour 1 (Err (BookFull 0)))
    ∷ call (by_draw 1 (Ok (parcel 1)))
    ∷ call (by_turn 0 0)
    ∷ call (by_rain 0 5000000 0 (Ok (25000000000, 0, 0)))
    ∷ rounds n

-- a list of happenings is a run, from nothing on
abbrev pub Happened : List Happening → Type 0
Happened hs = (t : State) × Ran Called hs nothing t

pub record WorkedRuns : Type 0 where
  pub day : Happened the_day
  pub year : (n : ℕ) → n ≡ 13333 → Happened (the_year n)
