-- The day, call by call.
use Rattle.std.proofs.Common.{Ok, Err, refl, inl, inr, arith}
use Rattle.refusals.specs.declared.Refusal.TheVariants.{NoSuchSegment, RainAboveLimit, DemandAboveLimit, StorageFull, BasinFull, DrawAmount, EmptyParcel}
use Rattle.basin.specs.Lists.{here, first}
use Rattle.basin.specs.Law.{by_rain, by_turn, by_draw, by_pour, by_closing, by_question, sums_of, fresh, New}
use Rattle.worked.specs.Runs.{small, great, parcel, the_day, Happened}
use Rattle.worked.proofs.Steps.{begins, opens, on_last, on_former, books, one_fits}
use Rattle.worked.proofs.Years.{great_new}

small_new : New (small 0 0 0 (fresh 0))
small_new = record { bounded = record { some = omega arith; few = omega arith; each = one_fits 10 0 1000 (record { some = omega arith; area = omega arith; content = omega arith; ceiling = omega arith }) }; pocket = refl; room = omega arith; small = omega arith; sums = refl }

pub the_day_lem : Happened the_day
the_day_lem =
    let a = opens (small 0 0 0 (fresh 0)) small_new begins in
    let b = on_last (by_rain 1 0 0 (Err (NoSuchSegment 1))) (small 0 0 0 (fresh 0)) a (inl (omega arith, refl), refl) refl in
    let c = on_last (by_rain 0 15000001 0 (Err (RainAboveLimit 0))) (small 0 0 0 (fresh 0)) b (inr (omega arith, inl (omega arith, refl)), refl) refl in
    let d = on_last (by_rain 0 0 1000001 (Err (DemandAboveLimit 0))) (small 0 0 0 (fresh 0)) c (inr (omega arith, inr (omega arith, inl (omega arith, refl))), refl) refl in
    let e = on_last (by_rain 0 1001 0 (Err (StorageFull 0))) (small 0 0 0 (fresh 0)) d (inr (omega arith, inr (omega arith, inr (omega arith, inl (omega arith, refl)))), refl) refl in
    let f = on_last (by_rain 0 1000 100 (Ok (4500, 1000, 0))) (small 450 4500 0 (sums_of 0 10000 0 1000 0 0 0)) e ((omega arith, (omega arith, (omega arith, (omega arith, (omega arith, (omega arith, tt)))))), record { depths = (450, 100, 0); rained = record { there = omega arith; content = 450; step = record { evaporation = omega arith; balance = refl; ceiling = refl }; after = refl }; answer = refl; pocket = refl; channel = refl; ceiling = refl; sums = refl }) refl in
    let g = on_last (by_rain 0 400 0 (Err (BasinFull 0))) (small 450 4500 0 (sums_of 0 10000 0 1000 0 0 0)) f (inr (omega arith, inr (omega arith, inr (omega arith, inr (omega arith, inl (omega arith, refl))))), refl) refl in
    let h = on_last (by_turn 2250 0) (small 450 0 2250 (sums_of 0 10000 2250 1000 0 0 0)) g (record { tracts = refl; pocket = refl; channel = refl; ceiling = refl; sums = refl }) refl in
    let i = on_last (by_draw 0 (Err DrawAmount)) (small 450 0 2250 (sums_of 0 10000 2250 1000 0 0 0)) h (inl (omega arith, refl), refl) refl in
    let j = on_last (by_draw 2251 (Err DrawAmount)) (small 450 0 2250 (sums_of 0 10000 2250 1000 0 0 0)) i (inr (omega arith, inl (omega arith, refl)), refl) refl in
    let k = on_last (by_draw 1250 (Ok (parcel 1250))) (small 450 0 1000 (sums_of 0 10000 2250 1000 0 1250 0)) j ((omega arith, (omega arith, tt)), record { parcel = refl; tracts = refl; pocket = refl; channel = refl; ceiling = refl; sums = refl }) first in
    let l = opens (great 0 0 (fresh 0)) great_new k in
    let m = on_last (by_pour 0 (Err EmptyParcel)) (great 0 0 (fresh 0)) l (inl (omega arith, refl), refl) refl in
    let n = on_last (by_pour 1250 (Ok tt)) (great 1250 0 (sums_of 0 0 0 0 0 0 1250)) m ((omega arith, (omega arith, (omega arith, tt))), record { tracts = refl; pocket = refl; channel = refl; ceiling = refl; sums = refl }) (here {y = parcel 0} (refl, refl)) in
    let o = books (parcel 0) n in
    let p = on_former (by_draw 1000 (Ok (parcel 1000))) (small 450 0 0 (sums_of 0 10000 2250 1000 0 2250 0)) o ((omega arith, (omega arith, tt)), record { parcel = refl; tracts = refl; pocket = refl; channel = refl; ceiling = refl; sums = refl }) first in
    let q = books (parcel 1000) p in
    let r = on_last (by_rain 0 10 0 (Ok (50000, 0, 0))) (great 51250 0 (sums_of 0 50000 0 0 0 0 1250)) q ((omega arith, (omega arith, (omega arith, (omega arith, (omega arith, (omega arith, tt)))))), record { depths = (10, 0, 0); rained = record { there = omega arith; content = 0; step = record { evaporation = omega arith; balance = refl; ceiling = refl }; after = refl }; answer = refl; pocket = refl; channel = refl; ceiling = refl; sums = refl }) refl in
    let s = on_last (by_turn 1250 0) (great 0 50000 (sums_of 0 50000 1250 0 0 0 1250)) r (record { tracts = refl; pocket = refl; channel = refl; ceiling = refl; sums = refl }) refl in
    let t = on_last (by_draw 50000 (Ok (parcel 50000))) (great 0 0 (sums_of 0 50000 1250 0 0 50000 1250)) s ((omega arith, (omega arith, tt)), record { parcel = refl; tracts = refl; pocket = refl; channel = refl; ceiling = refl; sums = refl }) first in
    let u = on_former (by_pour 50000 (Err (BasinFull 0))) (small 450 0 0 (sums_of 0 10000 2250 1000 0 2250 0)) t (inr (omega arith, inl (omega arith, refl)), refl) refl in
    let v = books (parcel 50000) u in
    let w = on_former (by_closing (record { sums = sums_of 0 10000 2250 1000 0 2250 0; held = 4500 })) (small 450 0 0 (fresh 4500)) v (record { answer = refl; tracts = refl; pocket = refl; channel = refl; ceiling = refl; sums = refl }) refl in
    let x = on_former (by_question (record { sums = fresh 4500; held = 4500 })) (small 450 0 0 (fresh 4500)) w (refl, refl) refl in
    (_, x.ran)
