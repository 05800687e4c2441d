-- What the records read so far have given: each word once with its figure, and in the end all fourteen.
use Rattle.std.proofs.Common.{◌≡◌, ℕ, zero, suc, ◌+◌, ◌*◌, ◌<◌, ◌≤◌, Bool, true, false, cond, ◌||◌, leb, List, [], ◌∷◌, length, get_or, set, take, drop, replicate, Some, None, Ok, Err, Option, Result, count_by, sym, refl, ap, ap₂, ◌∙◌, All, IsSome, ⊎_elim, add-one, arith, lit<, lit≤, length-set}
use Rattle.std.specs.Result.{result_err}
use Rattle.std.specs.Option.{is_some}
use Rattle.std.specs.Simd.{first_chunks}
use Rattle.std.proofs.lemmas.Option.{none-some, same_Some}
use Rattle.std.proofs.lemmas.List.Elements.{All-from_get_or}
use Rattle.std.proofs.lemmas.List.Sums.{sum_by-set, count_by-le-length}
use Rattle.std.proofs.lemmas.List.{drop-drop, take-take, drop-take, get_or-set_same, get_or-set_other, get_or-replicate}
use Rattle.std.proofs.lemmas.Bool.{cases_Bool, cases_eq, eq-eqb, ne_eqb, and_parts, leb-true}
use Rattle.refusals.specs.declared.Refusal.{Refusal}
use Rattle.card.specs.declared.checked.Card.{Card}
use Rattle.card.specs.declared.words.Word.{Word}
use Rattle.card.specs.Figures.{figure_of}
use Rattle.card.specs.Words.{words, place, within, ranged, no_word}
use Rattle.card.specs.Fields.{name_at, figure_at}
use Rattle.card.specs.Entries.{given, new_word, ranged_figure, pair, both, figure_under, entry_with, is, before, entry_at}
use Rattle.card.specs.Cards.{Ranged, Holds, Says, Figures, fault_then, first_fault, records_fault}
use Rattle.card.proofs.Names.{place_below, place_name}

-- a record before record n has the word at place k, and the figure v within its range
abbrev pub Gave : List ℕ → ℕ → ℕ → ℕ → Type 0
Gave card n k v = (i : ℕ) × (i < n) × (place (name_at card i) ≡ Some k) × (figure_of (figure_at card i) ≡ Some v) × (ranged k v ≡ true)

-- after i records a word has a figure just where a record before i has the word, and it is that record's
abbrev pub Noted : List ℕ → ℕ → List (Option ℕ) → Type 0
Noted card i vs = (k : ℕ) → k < 14 → (given vs k ≡ before card k i) × ((v : ℕ) → get_or vs k None ≡ Some v → Gave card i k v)

-- no record before i is refused
abbrev pub Clean : List ℕ → ℕ → Type 0
Clean card i = (j : ℕ) → j < i → result_err (entry_at card j) ≡ None

-- what a record of these bytes says, with the words met before it
pub record Entry (met : ℕ → Bool) (name figure : List ℕ) (k v : ℕ) : Type 0 where
  pub word : place name ≡ Some k
  pub fresh : met k ≡ false
  pub value : figure_of figure ≡ Some v
  pub range : ranged k v ≡ true

-- the word, as it is read
word_parts : (at : ℕ) (met : ℕ → Bool) (o : Option ℕ) (k : ℕ) → Ok k ≡ new_word at met o → (o ≡ Some k) × (met k ≡ false)
word_parts at met None k e = cc
word_parts at met (Some j) k e = grind arith

-- the figure, as it is read
figure_parts : (at k : ℕ) (o : Option ℕ) (v : ℕ) → Ok v ≡ ranged_figure at k o → (o ≡ Some v) × (ranged k v ≡ true)
figure_parts at k None v e = cc
figure_parts at k (Some u) v e = grind arith

pair_parts : (j : ℕ) (r : Result ℕ Refusal) (k v : ℕ) → Ok (k, v) ≡ pair j r → (j ≡ k) × (Ok v ≡ r)
pair_parts j (Err f) k v e = cc
pair_parts j (Ok u) k v e = grind arith

both_parts : (r : Result ℕ Refusal) (F : ℕ → Result ℕ Refusal) (k v : ℕ) → Ok (k, v) ≡ both r F → (Ok k ≡ r) × (Ok v ≡ F k)
both_parts (Err f) F k v e = cc
both_parts (Ok j) F k v e = let h = pair_parts j (F j) k v e in grind arith

pub entry_parts : (met : ℕ → Bool) (at : ℕ) (name figure : List ℕ) (k v : ℕ) → Ok (k, v) ≡ entry_with met at name figure → Entry met name figure k v
entry_parts met at name figure k v e =
    let h = both_parts (new_word at met (place name)) (λ j. figure_under j at figure) k v e in
    let w = word_parts at met (place name) k h.0 in
    let f = figure_parts (at + 8) k (figure_of figure) v h.1 in
    record { word = w.0; fresh = w.1; value = f.0; range = f.1 }

-- the bytes of record i, among the records of a card
chunk_at : (n k i : ℕ) (xs : List ℕ) → i < k → get_or (first_chunks n k xs) i [] ≡ take n (drop (n * i) xs)
chunk_at n zero i xs lt = absurd (omega arith)
chunk_at n (suc k) zero xs lt = let z : 0 ≡ n * 0 = omega arith in ap (λ (m : ℕ). take n (drop m xs)) z
chunk_at n (suc k) (suc i) xs lt =
    let z : n + n * i ≡ n * suc i = grind arith in
    chunk_at n k i (drop n xs) (omega arith) ∙ ap (take n) (drop-drop (n * i) n xs) ∙ ap (λ (m : ℕ). take n (drop m xs)) z

-- a record's twenty bytes read as its name and its figure on the card
pub record_read : (card : List ℕ) (records : List (List ℕ)) (n i : ℕ) (met : ℕ → Bool) → records ≡ first_chunks 20 n card → i < n
    → entry_with met (20 * i) (take 8 (get_or records i [])) (drop 8 (get_or records i [])) ≡ entry_with met (20 * i) (name_at card i) (figure_at card i)
record_read card records n i met e lt =
    let at : get_or records i [] ≡ take 20 (drop (20 * i) card) = ap (λ (rs : List (List ℕ)). get_or rs i []) e ∙ chunk_at 20 n i card lt in
    ap₂ (entry_with met (20 * i))
    (ap (take 8) at ∙ take-take 8 20 (drop (20 * i) card) (lit≤ tt))
    (ap (drop 8) at ∙ drop-take 8 12 (drop (20 * i) card) ∙ ap (take 12) (drop-drop 8 (20 * i) card))

-- two accounts of the words met that agree at a record's word read it alike
same_word : (at : ℕ) (met seen : ℕ → Bool) (o : Option ℕ) → ((k : ℕ) → o ≡ Some k → met k ≡ seen k) → new_word at met o ≡ new_word at seen o
same_word at met seen None agree = refl
same_word at met seen (Some k) agree = let e = agree k refl in cc

same_entry : (card : List ℕ) (i : ℕ) (vs : List (Option ℕ)) → Noted card i vs → entry_with (given vs) (20 * i) (name_at card i) (figure_at card i) ≡ entry_at card i
same_entry card i vs noted =
    ap (λ (r : Result ℕ Refusal). both r (λ k. figure_under k (20 * i) (figure_at card i)))
    (same_word (20 * i) (given vs) (λ k. before card k i) (place (name_at card i)) (λ k e. (noted k (place_below (name_at card i) k e)).0))

-- what a record answers, by the words met
pub err_part_entry : (card : List ℕ) (i : ℕ) (vs : List (Option ℕ)) (r : Result (ℕ × ℕ) Refusal) → Noted card i vs → r ≡ entry_with (given vs) (20 * i) (name_at card i) (figure_at card i) → result_err (entry_at card i) ≡ result_err r
err_part_entry card i vs r noted e = ap result_err (sym (e ∙ same_entry card i vs noted))

-- before the first record
pub noted_none : (card : List ℕ) → Noted card 0 (replicate 14 None)
noted_none card k lt = let e : get_or {A = Option ℕ} (replicate 14 None) k None ≡ None = get_or-replicate 14 k None None lt in (ap is_some e, λ v t. absurd (none-some v (sym e ∙ t)))

before_more : (card : List ℕ) (k i : ℕ) → before card k (i + 1) ≡ (is (place (name_at card i)) k || before card k i)
before_more card k i = rw add-one refl

gave_more : (card : List ℕ) (i k v : ℕ) → Gave card i k v → Gave card (i + 1) k v
gave_more card i k v h = (h.0, omega (arith, h.1), h.2, h.3, h.4)

-- after one more
module _ (card : List ℕ) (i : ℕ) (vs : List (Option ℕ)) (k v : ℕ) (entry : Entry (given vs) (name_at card i) (figure_at card i) k v) (noted : Noted card i vs) where
  noted_here : length vs ≡ 14 → k < 14 → (given (set vs k (Some v)) k ≡ before card k (i + 1)) × ((w : ℕ) → get_or (set vs k (Some v)) k None ≡ Some w → Gave card (i + 1) k w)
  noted_here long lt =
      let put = get_or-set_same vs k (Some v) None (omega arith) in (
        grind (arith, put, entry.word, before_more card k i, eq-eqb k k),
        λ w t. let e : v ≡ w = same_Some v w (sym put ∙ t) in (i, omega arith, entry.word, cc (entry.value), cc (entry.range)),
      )

  noted_there : (j : ℕ) → j < 14 → (j ≡ k → ⊥) → (given (set vs k (Some v)) j ≡ before card j (i + 1)) × ((w : ℕ) → get_or (set vs k (Some v)) j None ≡ Some w → Gave card (i + 1) j w)
  noted_there j lt ne =
      let other = get_or-set_other vs k j (Some v) None ne in (
        let fact = (noted j lt).0 in grind (arith, other, fact, entry.word, before_more card j i, ne_eqb k j),
        λ w t. gave_more card i j w ((noted j lt).1 w (sym other ∙ t)),
      )

  pub noted_more : length vs ≡ 14 → Noted card (i + 1) (set vs k (Some v))
  noted_more long j lt =
      ⊎_elim
      (λ e. rw e (noted_here long (omega arith)))
      (λ ne. noted_there j lt ne)
      (cases_eq j k)

-- the first refusal among some records
fault_none : (r : Result (ℕ × ℕ) Refusal) (g : Option Refusal) → result_err r ≡ None → fault_then r g ≡ g
fault_none (Ok e) g h = cc
fault_none (Err f) g h = cc

fault_some : (r : Result (ℕ × ℕ) Refusal) (g : Option Refusal) (f : Refusal) → result_err r ≡ Some f → fault_then r g ≡ Some f
fault_some (Ok e) g f h = cc
fault_some (Err x) g f h = h

first_none : (card : List ℕ) (i n : ℕ) → ((j : ℕ) → j < i + n → result_err (entry_at card j) ≡ None) → first_fault card i n ≡ None
first_none card i zero clean = refl
first_none card i (suc n) clean =
    fault_none (entry_at card i) (first_fault card (i + 1) n) (clean i (omega arith))
    ∙ first_none card (i + 1) n (λ j lt. clean j (omega arith))

first_some : (card : List ℕ) (i m n : ℕ) (f : Refusal) → Clean card (i + m) → result_err (entry_at card (i + m)) ≡ Some f → m < n → first_fault card i n ≡ Some f
first_some card i m zero f clean e lt = absurd (omega arith)
first_some card i zero (suc n) f clean e lt =
    let z : i + 0 ≡ i = omega arith in
    fault_some (entry_at card i) (first_fault card (i + 1) n) f (ap (λ (j : ℕ). result_err (entry_at card j)) (sym z) ∙ e)
first_some card i (suc m) (suc n) f clean e lt =
    let z : i + suc m ≡ i + 1 + m = omega arith in
    fault_none (entry_at card i) (first_fault card (i + 1) n) (clean i (omega arith))
    ∙ first_some card (i + 1) m n f (λ j lt'. clean j (omega arith)) (ap (λ (j : ℕ). result_err (entry_at card j)) (sym z) ∙ e) (omega arith)

pub no_fault : (card : List ℕ) (i : ℕ) → 14 ≤ i → Clean card i → records_fault card ≡ None
unfolding records_fault
no_fault card i all clean = first_none card 0 14 (λ j lt. clean j (omega arith))

pub that_fault : (card : List ℕ) (i : ℕ) (f : Refusal) → i < 14 → Clean card i → result_err (entry_at card i) ≡ Some f → records_fault card ≡ Some f
unfolding records_fault
that_fault card i f lt clean e =
    let z : 0 + i ≡ i = omega arith in
    first_some card 0 i 14 f (λ j lt'. clean j (omega arith)) (ap (λ (j : ℕ). result_err (entry_at card j)) z ∙ e) lt

-- a word that had none and now has a figure is one more
pub count_more : (vs : List (Option ℕ)) (k v : ℕ) → k < length vs → given vs k ≡ false → count_by is_some (set vs k (Some v)) ≡ count_by is_some vs + 1
count_more vs k v lt fresh =
    omega (arith, sum_by-set (λ (o : Option ℕ). cond (is_some o) 1 0) vs k (Some v) None lt, ap {B = ℕ} (λ t. cond t 1 0) fresh)

-- where as many have a figure as there are, each has
pub count_all : (vs : List (Option ℕ)) (k : ℕ) → count_by is_some vs ≡ length vs → k < length vs → given vs k ≡ true
count_all vs k full lt =
    ⊎_elim
    (λ t. t)
    (λ t. absurd (let more = count_more vs k 0 lt t in omega (arith, more, full, simp length-set at (count_by-le-length is_some (set vs k (Some 0))))))
    (cases_Bool (given vs k))

ranged_from : (ws : List Word) (j : ℕ) (vs : List ℕ) → ((k : ℕ) → k < length ws → within (get_or ws k no_word) (get_or vs (j + k) 0) ≡ true) → Ranged ws j vs
ranged_from [] j vs each = tt
ranged_from (w ∷ ws) j vs each =
    let z : j + 0 ≡ j = omega arith in
    let here : within w (get_or vs j 0) ≡ true = ap (λ (n : ℕ). within w (get_or vs n 0)) (sym z) ∙ each 0 (omega arith) in
    let h = and_parts (leb w.least (get_or vs j 0)) (leb (get_or vs j 0) w.most) here in (
      leb-true w.least (get_or vs j 0) h.0,
      leb-true (get_or vs j 0) w.most h.1,
      ranged_from ws (suc j) vs (λ k lt. let y : suc j + k ≡ j + suc k = omega arith in ap (λ (n : ℕ). within (get_or ws k no_word) (get_or vs n 0)) y ∙ each (suc k) (omega arith)),
    )

-- after fourteen records each word has its figure
module _ (card : List ℕ) (i : ℕ) (figures : List (Option ℕ)) (end : i ≡ 14) (noted : Noted card i figures) where
  pub all_some : length figures ≡ 14 → count_by is_some figures ≡ i → All IsSome figures
  all_some long full = All-from_get_or IsSome figures None (λ k lt. count_all figures k (omega arith) (omega arith))

  -- vs are the figures without their `Some`
  module _ (vs : List ℕ) (each : (k : ℕ) → k < 14 → get_or figures k None ≡ Some (get_or vs k 0)) where
    gave : (k : ℕ) → k < 14 → Gave card i k (get_or vs k 0)
    gave k lt = (noted k lt).1 (get_or vs k 0) (each k lt)

    pub all_ranged : Ranged words 0 vs
    unfolding ranged
    all_ranged =
        ranged_from words 0 vs (λ k lt. let z : 0 + k ≡ k = omega arith in ap (λ (n : ℕ). within (get_or words k no_word) (get_or vs n 0)) z ∙ (gave k lt).4)

    says_at : (k x : ℕ) → k < 14 → x ≡ get_or vs k 0 → Says card (get_or words k no_word).name x
    says_at k x lt e = let h = gave k lt in (h.0, omega (arith, h.1), place_name (name_at card h.0) k h.2, h.3 ∙ ap Some (sym e))

    pub all_said : (c : Card) → Holds vs c → Figures card c
    all_said c holds = record {
      area = says_at 0 c.area (lit< tt) holds.area;
      impv = says_at 1 c.impv (lit< tt) holds.impv;
      cepsc = says_at 2 c.cepsc (lit< tt) holds.cepsc;
      uzsn = says_at 3 c.uzsn (lit< tt) holds.uzsn;
      lzsn = says_at 4 c.lzsn (lit< tt) holds.lzsn;
      infilt = says_at 5 c.infilt (lit< tt) holds.infilt;
      intfw = says_at 6 c.intfw (lit< tt) holds.intfw;
      lzetp = says_at 7 c.lzetp (lit< tt) holds.lzetp;
      deepfr = says_at 8 c.deepfr (lit< tt) holds.deepfr;
      agwetp = says_at 9 c.agwetp (lit< tt) holds.agwetp;
      ovk = says_at 10 c.ovk (lit< tt) holds.ovk;
      ifwk = says_at 11 c.ifwk (lit< tt) holds.ifwk;
      gwk = says_at 12 c.gwk (lit< tt) holds.gwk;
      chk = says_at 13 c.chk (lit< tt) holds.chk;
    }
