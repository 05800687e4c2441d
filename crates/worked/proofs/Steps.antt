-- Runs grow by one happening after the other.
--   At hs ss ps b   the happenings hs lead to these stories, parcels and booked water
use Rattle.std.proofs.Common.{ℕ, zero, suc, ◌+◌, ◌<◌, List, [], ◌∷◌, length, refl, arith}
use Rattle.banks.specs.Rows.{tract, at, Fit}
use Rattle.basin.specs.Lists.{here, there, first}
use Rattle.basin.specs.Law.{View, Entry, Story, nothing, New, Hands, Happening, opening, call, booking, Ran}
use Rattle.basin.specs.Calls.{Called}
use Rattle.basin.specs.declared.parcel.Parcel.{Parcel}

pub record At (hs : List Happening) (ss : List Story) (ps : List Parcel) (b : ℕ) : Type 0 where
  pub ran : Ran Called hs nothing (record { stories = ss; parcels = ps; booked = b })

abbrev pub story : View → List Entry → View → Story
story o es v = record { opened = o; entries = es; stands = v }

pub begins : At [] [] [] 0
begins = record { ran = refl }

pub opens : {hs : List Happening} {ss : List Story} {ps : List Parcel} {b : ℕ} (v : View) → New v → At hs ss ps b → At (opening v ∷ hs) (story v [] v ∷ ss) ps b
opens v n r = record { ran = (_, r.ran, (n, refl)) }

-- a call on the basin that was opened last, and on the one before it
pub on_last : {hs : List Happening} {o v : View} {es : List Entry} {ss : List Story} {ps qs : List Parcel} {b : ℕ} (e : Entry) (w : View) → At hs (story o es v ∷ ss) ps b → Called v e w → Hands e ps qs → At (call e ∷ hs) (story o (e ∷ es) w ∷ ss) qs b
on_last e w r c h = record { ran = (_, r.ran, (here (record { told = refl; called = c }), h, refl)) }

pub on_former : {hs : List Happening} {o v : View} {es : List Entry} {s : Story} {ss : List Story} {ps qs : List Parcel} {b : ℕ} (e : Entry) (w : View) → At hs (s ∷ story o es v ∷ ss) ps b → Called v e w → Hands e ps qs → At (call e ∷ hs) (s ∷ story o (e ∷ es) w ∷ ss) qs b
on_former e w r c h = record { ran = (_, r.ran, (there (here (record { told = refl; called = c })), h, refl)) }

-- the first parcel at hand is booked
pub books : {hs : List Happening} {ss : List Story} {ps : List Parcel} {b : ℕ} (p : Parcel) → At hs ss (p ∷ ps) b → At (booking p p.amount ∷ hs) ss ps (b + p.amount)
books p r = record { ran = (_, r.ran, (refl, refl, first, refl)) }

-- a row of one segment
pub one_fits : (a c m : ℕ) → Fit (tract a c m) → (k : ℕ) → k < length (tract a c m ∷ []) → Fit (at (tract a c m ∷ []) k)
one_fits a c m f zero h = f
one_fits a c m f (suc k) h = absurd (omega arith)
