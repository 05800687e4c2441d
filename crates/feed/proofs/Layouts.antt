-- A record that is read is laid out as its event is.
use Rattle.std.proofs.Common.{◌≡◌, ℕ, ◌+◌, ◌*◌, ◌/◌, ◌%◌, ◌<◌, ◌≤◌, cond, eqb, List, [], ◌∷◌, ◌++◌, map, length, get_or, drop, replicate, IfOk, Ok, Err, Result, ◌⊎◌, inl, inr, sym, refl, ap, ◌∙◌, arith, lit<, length-drop, length-take}
use Rattle.std.specs.List.{range_with_len}
use Rattle.std.specs.Result.{result_and}
use Rattle.std.proofs.lemmas.List.FromFn.{fill_by_all}
use Rattle.std.proofs.lemmas.List.{get_or-take, get_or-drop, get_or-replicate, drop_more}
use Rattle.std.proofs.lemmas.Grind.{common_steps}
use Rattle.refusals.specs.declared.Refusal.{Refusal}
use Rattle.refusals.specs.declared.Refusal.TheVariants.{UnknownLetter}
use Rattle.feed.specs.declared.Event.{Event}
use Rattle.feed.specs.declared.Event.TheVariants.{Rain, Turn, Closing}
use Rattle.feed.specs.Reading.{word, part, blank, rain_of, bare_of, lettered, four_bytes, record_of}

then_parts : (r : Result (Unit {0}) Refusal) (s : Result Event Refusal) (e : Event) → result_and r s ≡ Ok e → (r ≡ Ok tt) × (s ≡ Ok e)
then_parts (Ok u) s e h = (refl, h)
then_parts (Err f) s e h = absurd (grind arith)

-- a part that is blank is zeros
blank_zeros : (at : ℕ) (bs : List ℕ) → blank at bs ≡ Ok tt → bs ≡ replicate (length bs) 0
blank_zeros at [] h = refl
blank_zeros at (b ∷ bs) h = grind (arith, common_steps, blank_zeros (at + 1) bs)

blank_zero : (at : ℕ) (bs : List ℕ) → blank at bs ≡ Ok tt → (k : ℕ) → k < length bs → get_or bs k 0 ≡ 0
blank_zero at bs h k lt = ap (λ (xs : List ℕ). get_or xs k 0) (blank_zeros at bs h) ∙ get_or-replicate (length bs) k 0 0 lt

part_zero : (bs : List ℕ) (at n k : ℕ) → at + n ≤ length bs → k < n → blank at (part at n bs) ≡ Ok tt → get_or bs (at + k) 0 ≡ 0
part_zero bs at n k fits lt h =
    sym (get_or-take n (drop at bs) k 0 lt ∙ get_or-drop at bs k 0)
    ∙ blank_zero at (part at n bs) h k (simp (length-take, length-drop) (omega arith))

-- a record that is read has one of the three letters
by_letter : (b : ℕ) (r t c : Result Event Refusal) (e : Event) → cond (eqb b 82) r (cond (eqb b 84) t (cond (eqb b 67) c (Err UnknownLetter))) ≡ Ok e
    → ((b ≡ 82) × (r ≡ Ok e)) ⊎ (((b ≡ 84) × (t ≡ Ok e)) ⊎ ((b ≡ 67) × (c ≡ Ok e)))
by_letter b r t c e h = grind arith

-- four bytes are those of the number that they write
same_bytes : (a b c d : ℕ) → a < 256 → b < 256 → c < 256 → d < 256 → a ∷ b ∷ c ∷ d ∷ [] ≡ four_bytes (a + b * 256 + c * 65536 + d * 16777216)
same_bytes a b c d la lb lc ld =
    let n = a + b * 256 + c * 65536 + d * 16777216 in
    let ea : a ≡ n % 256 = omega arith in
    let eb : b ≡ n / 256 % 256 = omega arith in
    let ec : c ≡ n / 65536 % 256 = omega arith in
    let ed : d ≡ n / 16777216 = omega arith in
    λ i. ea i ∷ eb i ∷ ec i ∷ ed i ∷ []

module _ (bs : List ℕ) (size : length bs ≡ 16) (bytes : (k : ℕ) → get_or bs k 0 < 256) where
  sixteen : bs ≡ map (λ k. get_or bs k 0) (range_with_len 0 16)
  sixteen = fill_by_all (λ k. get_or bs k 0) bs 16 0 size (λ k lt. refl)

  bare_layout : (x e : Event) (l : ℕ) → get_or bs 0 0 ≡ l → bare_of x bs ≡ Ok e → (x ≡ e) × (bs ≡ l ∷ replicate 15 0)
  bare_layout x e l first h =
      let p = then_parts (blank 1 (drop 1 bs)) (Ok x) e h in
      let long : length (drop 1 bs) ≡ 15 = simp length-drop (omega arith) in
      let zeros : drop 1 bs ≡ replicate 15 0 = blank_zeros 1 (drop 1 bs) p.0 ∙ ap (λ n. replicate n 0) long in
      let same : Ok x ≡ Ok e = p.1 in
      let y : x ≡ e = cc in
      (y, drop_more bs 0 0 (omega arith) ∙ (λ i. first i ∷ zeros i))

  rain_layout : (e : Event) → get_or bs 0 0 ≡ 82 → rain_of bs ≡ Ok e → bs ≡ record_of e
  rain_layout e first h =
      let rain = Rain (get_or bs 1 0) (word 4 bs) (word 8 bs) in
      let p = then_parts (blank 2 (part 2 2 bs)) (result_and (blank 12 (part 12 4 bs)) (Ok rain)) e h in
      let q = then_parts (blank 12 (part 12 4 bs)) (Ok rain) e p.1 in
      let g : (k : ℕ) → k < 2 → get_or bs (2 + k) 0 ≡ 0 = λ k lt. part_zero bs 2 2 k (omega arith) lt p.0 in
      let z : (k : ℕ) → k < 4 → get_or bs (12 + k) 0 ≡ 0 = λ k lt. part_zero bs 12 4 k (omega arith) lt q.0 in
      let depth = same_bytes (get_or bs 4 0) (get_or bs 5 0) (get_or bs 6 0) (get_or bs 7 0) (bytes 4) (bytes 5) (bytes 6) (bytes 7) in
      let demand = same_bytes (get_or bs 8 0) (get_or bs 9 0) (get_or bs 10 0) (get_or bs 11 0) (bytes 8) (bytes 9) (bytes 10) (bytes 11) in
      let same : Ok rain ≡ Ok e = q.1 in
      let y : rain ≡ e = cc in
      sixteen
      ∙ (λ i. first i ∷ get_or bs 1 0 ∷ g 0 (lit< tt) i ∷ g 1 (lit< tt) i ∷ (depth i ++ (demand i ++ (z 0 (lit< tt) i ∷ z 1 (lit< tt) i ∷ z 2 (lit< tt) i ∷ z 3 (lit< tt) i ∷ []))))
      ∙ ap record_of y

  lettered_layout : (e : Event) → lettered bs ≡ Ok e → bs ≡ record_of e
  lettered_layout e h = elim (by_letter (get_or bs 0 0) (rain_of bs) (bare_of Turn bs) (bare_of Closing bs) e h) [
    | inl r ↦ rain_layout e r.0 r.1
    | inr (inl t) ↦ let q = bare_layout Turn e 84 t.0 t.1 in q.1 ∙ ap record_of q.0
    | inr (inr c) ↦ let q = bare_layout Closing e 67 c.0 c.1 in q.1 ∙ ap record_of q.0
  ]

  pub read_layout : (r : Result Event Refusal) → r ≡ lettered bs → IfOk r (λ e. bs ≡ record_of e)
  read_layout (Ok e) h = lettered_layout e (sym h)
  read_layout (Err f) h = tt
