-- A line written into a part of a page, and the part of a block that is a record.
use Rattle.std.proofs.Common.{◌≡◌, ℕ, ◌+◌, ◌-◌, ◌≤◌, min, List, [], ◌∷◌, ◌++◌, length, take, drop, Ok, Err, Result, sym, refl, ap, ◌∙◌, ⊎_elim, append_assoc, subst, arith, length-append, length-drop, length-take, MatchResult}
use borrow.Rule.Slice.PartMut.{put_mid}
use Rattle.std.proofs.lemmas.List.{append-nil, drop_all, drop-drop, take_all, take_at, drop_at, take_rest}
use Rattle.std.proofs.lemmas.Bool.{cases_lt}
use Rattle.refusals.specs.Limits.{Limit, Answers}
use Rattle.refusals.specs.Notices.{notice_of}
use Rattle.refusals.specs.declared.Refusal.{Refusal}
use Rattle.storages.specs.declared.meaning.Storage as storage
use Rattle.storages.specs.declared.meaning.Tapped as tapped
use Rattle.banks.specs.declared.meaning.Bank as bank
use Rattle.basin.specs.Law.{Entry}
use Rattle.basin.specs.Calls.{Called}
use Rattle.basin.specs.Basins.{view, Moved}
use Rattle.basin.specs.declared.basin.Basin.{Basin}
use Rattle.feed.specs.Reading.{reading}
use Rattle.feed.specs.declared.Event.{Event}
use Rattle.feed.specs.declared.Event.TheVariants as event
use Rattle.lines.specs.declared.Line.{Line}
use Rattle.lines.specs.declared.Line.TheVariants as line
use Rattle.posting.specs.Posting.{Answered, Posts, Posted}

-- a line put over the front of what a page has from `at` on
module _ (page buf line : List ℕ) (at k : ℕ) (room : at ≤ length page) (long : k ≡ length line)
    (put : buf ≡ line ++ drop k (take (length page - at) (drop at page))) where
  whole : put_mid at (length page - at) page buf ≡ (take at page ++ line) ++ drop (at + k) page
  whole =
      let rest = take_rest page at in
      let none = drop_all (length page - at) (drop at page) (simp length-drop (omega arith)) in
      let e : buf ≡ line ++ drop (at + k) page = put ∙ ap (λ (x : List ℕ). line ++ drop k x) rest ∙ ap (λ (x : List ℕ). line ++ x) (drop-drop k at page) in
      (λ i. take at page ++ (e i ++ none i)) ∙ ap (λ (x : List ℕ). take at page ++ x) (append-nil (line ++ drop (at + k) page)) ∙ sym (append_assoc (take at page) line (drop (at + k) page))

  size : length (take at page ++ line) ≡ at + k
  size = simp (length-append, length-take) (omega arith)

  pub written_front : take (at + k) (put_mid at (length page - at) page buf) ≡ take at page ++ line
  written_front = ap (take (at + k)) whole ∙ take_at (take at page ++ line) (drop (at + k) page) (at + k) size

  pub written_rest : drop (at + k) (put_mid at (length page - at) page buf) ≡ drop (at + k) page
  written_rest = ap (drop (at + k)) whole ∙ drop_at (take at page ++ line) (drop (at + k) page) (at + k) size

-- what holds of a granted answer
pub granted : {T : Type 0} (ls : List Limit) (r : Result T Refusal) (P : T → Type 0) (K : Type 0) (x : T) → Answers ls r P K → r ≡ Ok x → P x
granted ls r P K x a e = (subst (λ (q : Result _ Refusal). Answers ls q P K) e a).1

empty : (xs : List ℕ) → length xs ≡ 0 → xs ≡ []
empty [] e = refl
empty (x ∷ xs) e = absurd (omega arith)

-- the first piece of what is left, at most n long, and what is left behind it
pub cut_front : (n : ℕ) (rest piece behind : List ℕ) → rest ≡ piece ++ behind → length piece ≡ min n (length rest) → (piece ≡ take n rest) × (behind ≡ drop n rest)
cut_front n rest piece behind e l =
    let s : length rest ≡ length piece + length behind = ap length e ∙ length-append piece behind in
    ⊎_elim
    (λ h.
    let nil : behind ≡ [] = empty behind (omega arith) in
    (sym (append-nil piece) ∙ ap (λ (x : List ℕ). piece ++ x) (sym nil) ∙ sym e ∙ sym (take_all n rest (omega arith)), nil ∙ sym (drop_all n rest (omega arith))))
    (λ h. (sym (take_at piece behind n (omega arith)) ∙ ap (take n) (sym e), sym (drop_at piece behind n (omega arith)) ∙ ap (drop n) (sym e)))
    (cases_lt (length rest) n)

-- what was done, by less of what it did
answered : (P Q : Entry → Type 0) → ((e : Entry) → P e → Q e) → (ev : Event) (l : Line) → Answered P ev l → Answered Q ev l
answered P Q f (event.Rain k depth demand) l (r, d, e) = (r, f _ d, e)
answered P Q f event.Turn l (flow, deep, d, e) = (flow, deep, f _ d, e)
answered P Q f event.Closing l (b, d, e) = (b, f _ d, e)

read : (x : Result Event Refusal) (P Q : Entry → Type 0) (R S : Refusal → Type 0) (l : Line) → ((e : Entry) → P e → Q e) → ((f : Refusal) → R f → S f) → MatchResult x (λ ev. Answered P ev l) R → MatchResult x (λ ev. Answered Q ev l) S
read (Ok ev) P Q R S l f g h = answered P Q f ev l h
read (Err e) P Q R S l f g h = g e h

-- a posting, by what can be seen of the basin
pub seen : {B C : Type 0} (G : bank.Ghosts B) (S : storage.Ghosts C) (T : tapped.Ghosts C) (b : Basin B C G S) (bytes : List ℕ) (l : Line) (c : Basin B C G S) → Posts G S T b bytes l c → Posted (view G S b) bytes l (view G S c)
seen G S T b bytes l c h =
    let did : Entry → Type 0 = λ e. Called (view G S b) e (view G S c) × Moved G S T b e c in
    let told : Refusal → Type 0 = λ f. (l ≡ line.Refused (notice_of f)) × (c ≡ b) in
    read (reading bytes) did (λ e. Called (view G S b) e (view G S c)) told (λ f. (l ≡ line.Refused (notice_of f)) × (view G S c ≡ view G S b)) l (λ e d. d.0) (λ f d. (d.0, ap (view G S) d.1)) h
