-- What a call leaves held, and what it leaves alone, seen from outside.
use Rattle.std.proofs.Common.{◌≡◌, ℕ, ◌+◌, ◌*◌, refl, ap, arith}
use Rattle.storages.specs.Meaning.{Out}
use Rattle.banks.specs.Rows.{at, volume}
use Rattle.banks.proofs.Rows.{rained_volume}
use Rattle.basin.specs.Law.{View, held}
use Rattle.basin.specs.Calls.{Rains, Turns, Draws, Pours}
use Rattle.basin.specs.declared.parcel.Parcel.{Parcel}

-- a rain brings depth times area, and takes what evaporates and what goes deep
pub rain_held : (v : View) (k p d : ℕ) (o : Out) (w : View) → Rains v k p d o w → held w + o.1 + o.2 ≡ held v + p * (at v.tracts k).area
rain_held v k p d o w r =
    let m = rained_volume v.tracts k p d r.depths w.tracts (at v.tracts k).area refl r.rained in
    let a0 = ap (λ x. x.0) r.answer in
    let a1 = ap (λ x. x.1) r.answer in
    let a2 = ap (λ x. x.2) r.answer in
    omega (arith, r.pocket, r.channel)

pub turn_held : (v : View) (flow deep : ℕ) (w : View) → Turns v flow deep w → held w + flow + deep ≡ held v
turn_held v flow deep w r = let m = ap volume r.tracts in omega (arith, r.pocket, r.channel)

pub draw_held : (v : View) (n : ℕ) (p : Parcel) (w : View) → Draws v n p w → held w + n ≡ held v
draw_held v n p w r = let m = ap volume r.tracts in omega (arith, r.pocket, r.channel)

pub pour_held : (v : View) (n : ℕ) (w : View) → Pours v n w → held w ≡ held v + n
pour_held v n w r = let m = ap volume r.tracts in omega (arith, r.pocket, r.channel)
