-- A year that fills a book: rounds of rain and turn by induction, then the last calls.
use Rattle.std.proofs.Common.{◌≡◌, ℕ, zero, suc, ◌+◌, ◌*◌, ◌≤◌, List, [], ◌∷◌, Ok, Err, refl, inl, inr, arith}
use Rattle.refusals.specs.declared.Refusal.TheVariants.{BookFull}
use Rattle.basin.specs.Lists.{first}
use Rattle.basin.specs.Law.{Entry, by_rain, by_turn, by_draw, by_pour, sums_of, fresh, New}
use Rattle.worked.specs.Runs.{great, parcel, rounds, the_year, Happened}
use Rattle.worked.proofs.Steps.{At, story, begins, opens, on_last, one_fits}

pub great_new : New (great 0 0 (fresh 0))
great_new = record { bounded = record { some = omega arith; few = omega arith; each = one_fits 5000 0 100000000 (record { some = omega arith; area = omega arith; content = omega arith; ceiling = omega arith }) }; pocket = refl; room = omega arith; small = omega arith; sums = refl }

-- the calls of n rounds, and what fell in them
calls : ℕ → List Entry
calls zero = []
calls (suc n) = by_turn 75000000000 0 ∷ by_rain 0 15000000 0 (Ok (75000000000, 0, 0)) ∷ calls n

fallen : ℕ → ℕ
fallen zero = 0
fallen (suc n) = fallen n + 75000000000

fallen_is : (n : ℕ) → fallen n ≡ n * 75000000000
unfolding fallen
fallen_is zero = omega arith
fallen_is (suc n) = let e = fallen_is n in omega arith

rounds_run : (n : ℕ) → n ≤ 13333 → At (rounds n) (story (great 0 0 (fresh 0)) (calls n) (great 0 0 (sums_of 0 (fallen n) (fallen n) 0 0 0 0)) ∷ []) [] 0
unfolding calls fallen
rounds_run zero h = opens (great 0 0 (fresh 0)) great_new begins
rounds_run (suc n) h =
    let f = fallen_is n in
    let r = rounds_run n (omega arith) in
    let p = on_last (by_rain 0 15000000 0 (Ok (75000000000, 0, 0))) (great 75000000000 0 (sums_of 0 (fallen n + 75000000000) (fallen n) 0 0 0 0)) r ((omega arith, (omega arith, (omega arith, (omega arith, (omega arith, (omega arith, tt)))))), record { depths = (15000000, 0, 0); rained = record { there = omega arith; content = 0; step = record { evaporation = omega arith; balance = refl; ceiling = refl }; after = refl }; answer = refl; pocket = refl; channel = refl; ceiling = refl; sums = refl }) refl in
    on_last (by_turn 75000000000 0) (great 0 0 (sums_of 0 (fallen n + 75000000000) (fallen n + 75000000000) 0 0 0 0)) p (record { tracts = refl; pocket = refl; channel = refl; ceiling = refl; sums = refl }) refl

pub the_year_lem : (n : ℕ) → n ≡ 13333 → Happened (the_year n)
the_year_lem n h =
    let f = fallen_is n in
    let r = rounds_run n (omega arith) in
    let a = on_last (by_rain 0 5000000 0 (Ok (25000000000, 0, 0))) (great 25000000000 0 (sums_of 0 (fallen n + 25000000000) (fallen n) 0 0 0 0)) r ((omega arith, (omega arith, (omega arith, (omega arith, (omega arith, (omega arith, tt)))))), record { depths = (5000000, 0, 0); rained = record { there = omega arith; content = 0; step = record { evaporation = omega arith; balance = refl; ceiling = refl }; after = refl }; answer = refl; pocket = refl; channel = refl; ceiling = refl; sums = refl }) refl in
    let b = on_last (by_turn 0 0) (great 0 25000000000 (sums_of 0 (fallen n + 25000000000) (fallen n + 0) 0 0 0 0)) a (record { tracts = refl; pocket = refl; channel = refl; ceiling = refl; sums = refl }) refl in
    let c = on_last (by_draw 1 (Ok (parcel 1))) (great 0 24999999999 (sums_of 0 (fallen n + 25000000000) (fallen n + 0) 0 0 1 0)) b ((omega arith, (omega arith, tt)), record { parcel = refl; tracts = refl; pocket = refl; channel = refl; ceiling = refl; sums = refl }) first in
    let d = on_last (by_pour 1 (Err (BookFull 0))) (great 0 24999999999 (sums_of 0 (fallen n + 25000000000) (fallen n + 0) 0 0 1 0)) c (inr (omega arith, inr (omega arith, inl (omega arith, refl))), refl) refl in
    (_, (on_last (by_rain 0 1 0 (Err (BookFull 0))) (great 0 24999999999 (sums_of 0 (fallen n + 25000000000) (fallen n + 0) 0 0 1 0)) d (inr (omega arith, inr (omega arith, inr (omega arith, inr (omega arith, inr (omega arith, inl (omega arith, refl)))))), refl) refl).ran)
