-- What the two kinds of bank answer to a rain, by the rain of what they are made of.
use mathlib.Core.HLevel.{is_prop→PathP}
use Rattle.std.specs.Prelude.{◌≡◌, ℕ, zero, suc, ◌+◌, ◌<◌, ◌≤◌, List, [], ◌∷◌, length, Ok, Err, Result}
use Rattle.std.specs.Coded.{le_prop}
use Rattle.std.proofs.Common.{inr, refl, sym, subst, arith}
use Rattle.refusals.specs.Limits.{limit, Passed, Answers}
use Rattle.refusals.specs.declared.Refusal.{Refusal}
use Rattle.refusals.specs.declared.Refusal.TheVariants.{StorageFull}
use Rattle.storages.specs.Meaning.{step_limits}
use Rattle.storages.specs.declared.meaning.Storage as storage
use Rattle.banks.specs.Rows.{at, room_limits, rain_limits}
use Rattle.banks.specs.declared.meaning.Bank as bank
use Rattle.banks.specs.declared.plot.Plot.{Plot}
use Rattle.banks.specs.declared.pair.Pair.{Pair}
use Rattle.banks.specs.declared.tract.Tract.{Tract}

-- plots and pairs of the same parts are the same
pub same_plot : {S : Type 0} (G : storage.Ghosts S) (p q : Plot S G) → p.storage ≡ q.storage → p.area ≡ q.area → p ≡ q
same_plot G p q e f = λ i. record {
  storage = e i;
  area = f i;
  some = is_prop→PathP (λ j. 1 ≤ f j) (λ j. le_prop) p.some q.some i;
  most = is_prop→PathP (λ j. f j ≤ 5000) (λ j. le_prop) p.most q.most i;
  small = is_prop→PathP (λ j. G.limit (e j) ≤ 100000000) (λ j. le_prop) p.small q.small i;
}

pub same_pair : {F S : Type 0} (G : bank.Ghosts F) (H : bank.Ghosts S) (p q : Pair F S G H) → p.first ≡ q.first → p.second ≡ q.second → p ≡ q
same_pair G H p q e f = λ i. record {
  first = e i;
  second = f i;
  few = is_prop→PathP (λ j. length (G.tracts (e j)) + length (H.tracts (f j)) ≤ 16) (λ j. le_prop) p.few q.few i;
}

-- segment k of a row is segment j of another: what the other answers, the row answers
pub rains_there : {X : Type 0} (xs ts : List Tract) (j k p : ℕ) (r : Result X Refusal) (P Q : X → Type 0) (K L : Type 0)
    → k < length ts → at ts k ≡ at xs j → ((x : X) → P x → Q x) → (K → L) → Answers (room_limits xs j p k) r P K → Answers (rain_limits ts k p) r Q L
rains_there xs ts j k p (Ok x) P Q K L h e f g a = ((omega arith, (subst (λ (t : Tract). t.content + p ≤ t.ceiling) (sym e) a.0.0, tt)), f x a.1)
rains_there xs ts j k p (Err y) P Q K L h e f g a = (inr (omega arith, subst (λ (t : Tract). Passed (limit (t.content + p) t.ceiling (StorageFull k) ∷ []) y) (sym e) a.0), g a.1)

-- a lone segment is segment 0: what its storage answers, the row answers
pub rains_alone : {X : Type 0} (t : Tract) (k p : ℕ) (r : Result X Refusal) (P Q : X → Type 0) (K L : Type 0)
    → k ≡ 0 → ((x : X) → P x → Q x) → (K → L) → Answers (step_limits t.content t.ceiling p) r P K → Answers (rain_limits (t ∷ []) k p) r Q L
rains_alone t zero p r P Q K L e f g a = rains_there (t ∷ []) (t ∷ []) 0 0 p r P Q K L (omega arith) refl f g a
rains_alone t (suc k) p r P Q K L e f g a = absurd (omega arith)
