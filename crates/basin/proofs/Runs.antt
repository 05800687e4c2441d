-- The law of the book: each happening keeps it.
use Rattle.std.proofs.Common.{◌≡◌, ℕ, ◌+◌, ◌*◌, ◌<◌, ◌≤◌, List, [], ◌∷◌, length, get_or, Ok, Err, sym, refl, ap, ◌∙◌, subst, inl, inr, ⊎_elim, mul-le-mul_right, arith}
use Rattle.refusals.specs.declared.Refusal.{Refusal}
use Rattle.refusals.specs.Limits.{Passed}
use Rattle.banks.specs.Rows.{at, areas, volume}
use Rattle.banks.proofs.Rows.{area_at, rained_areas, rained_length}
use Rattle.basin.specs.Lists.{All, total, One, here, there, Less, first, later}
use Rattle.basin.specs.Law.{View, held, Entry, by_rain, by_turn, by_draw, by_pour, by_closing, by_question, Even, fresh, added, renewed, tally, Story, whole, since, New, State, nothing, joined, Goes, Hands, Happening, opening, call, booking, Happens, Ran, Balanced, acre, Over, Rules, Lawful, Law}
use Rattle.basin.specs.Calls.{Called, rain_limits}
use Rattle.basin.specs.declared.book.Sums.{Sums}
use Rattle.basin.specs.declared.parcel.Parcel.{Parcel}
use Rattle.basin.proofs.Moves.{rain_held, turn_held, draw_held, pour_held}

-- what each story keeps
record Kept (s : Story) : Type 0 where
  acres : areas s.stands.tracts ≡ areas s.opened.tracts
  count : length s.stands.tracts ≡ length s.opened.tracts
  balanced : Balanced s

-- the book after an entry that adds to it
booked : (a b : List ℕ) (e : Entry) (s t u : Sums) → a ≡ b → s ≡ t → u ≡ added a e s → u ≡ added b e t
booked a b e s t u p q r = r ∙ ap (λ l. added l e s) p ∙ ap (λ x. added b e x) q

-- a call that altered neither the basin nor the tally
same : (o : View) (es : List Entry) (v w : View) (e : Entry) → w ≡ v → tally added (areas o.tracts) (held o) (e ∷ es) ≡ tally added (areas o.tracts) (held o) es → tally renewed (areas o.tracts) (held o) (e ∷ es) ≡ tally renewed (areas o.tracts) (held o) es → Kept (record { opened = o; entries = es; stands = v }) → Kept (record { opened = o; entries = e ∷ es; stands = w })
same o es v w e q a b i = subst (λ u. Kept (record { opened = o; entries = e ∷ es; stands = u })) (sym q) (record {
  acres = i.acres;
  count = i.count;
  balanced = record { even = subst (λ s. Even s (held v)) (sym a) i.balanced.even; book = i.balanced.book ∙ sym b; running = subst (λ s. Even s (held v)) (sym b) i.balanced.running };
})

step : (o : View) (es : List Entry) (v : View) (e : Entry) (w : View) → Called v e w → Kept (record { opened = o; entries = es; stands = v }) → Kept (record { opened = o; entries = e ∷ es; stands = w })
step o es v (by_rain k p d (Ok x)) w (a, r) i =
    let f = rain_held v k p d x w r in
    let b = i.balanced in
    let n : get_or (areas o.tracts) k 0 ≡ (at v.tracts k).area = ap (λ l. get_or l k 0) (sym i.acres) ∙ area_at v.tracts k in
    let m : p * get_or (areas o.tracts) k 0 ≡ p * (at v.tracts k).area = ap (λ n. p * n) n in
    record {
      acres = rained_areas v.tracts k p d r.depths w.tracts r.rained ∙ i.acres;
      count = rained_length v.tracts k p d r.depths w.tracts r.rained ∙ i.count;
      balanced = record { even = omega (arith, b.even); running = omega (arith, b.running); book = booked _ _ (by_rain k p d (Ok x)) _ _ _ i.acres b.book r.sums };
    }
step o es v (by_rain k p d (Err f)) w (a, r) i = same o es v w (by_rain k p d (Err f)) r refl refl i
step o es v (by_turn flow deep) w r i =
    let f = turn_held v flow deep w r in
    let b = i.balanced in
    record { acres = ap areas r.tracts ∙ i.acres; count = ap length r.tracts ∙ i.count; balanced = record { even = omega (arith, b.even); running = omega (arith, b.running); book = booked _ _ (by_turn flow deep) _ _ _ i.acres b.book r.sums } }
step o es v (by_draw n (Ok p)) w (a, r) i =
    let f = draw_held v n p w r in
    let b = i.balanced in
    record { acres = ap areas r.tracts ∙ i.acres; count = ap length r.tracts ∙ i.count; balanced = record { even = omega (arith, b.even); running = omega (arith, b.running); book = booked _ _ (by_draw n (Ok p)) _ _ _ i.acres b.book r.sums } }
step o es v (by_draw n (Err f)) w (a, r) i = same o es v w (by_draw n (Err f)) r refl refl i
step o es v (by_pour n (Ok p)) w (a, r) i =
    let f = pour_held v n w r in
    let b = i.balanced in
    record { acres = ap areas r.tracts ∙ i.acres; count = ap length r.tracts ∙ i.count; balanced = record { even = omega (arith, b.even); running = omega (arith, b.running); book = booked _ _ (by_pour n (Ok tt)) _ _ _ i.acres b.book r.sums } }
step o es v (by_pour n (Err f)) w (a, r) i = same o es v w (by_pour n (Err f)) r refl refl i
step o es v (by_closing c) w r i =
    let m = ap volume r.tracts in
    let b = i.balanced in
    record {
      acres = ap areas r.tracts ∙ i.acres;
      count = ap length r.tracts ∙ i.count;
      balanced = record { even = omega (arith, b.even, r.pocket, r.channel); running = omega (arith, b.running, r.pocket, r.channel); book = r.sums ∙ ap fresh (omega (arith, b.running)) };
    }
step o es v (by_question c) w (a, r) i = same o es v w (by_question c) r refl refl i

goes : (e : Entry) (s t : Story) → Goes Called e s t → Kept s → Kept t
goes e s t g i = subst Kept (sym g.told) (step s.opened s.entries s.stands e t.stands g.called i)

-- lists
all_one : {X : Type 0} {R : X → X → Type 0} (P : X → Type 0) {xs ys : List X} → ((x y : X) → R x y → P x → P y) → One R xs ys → All P xs → All P ys
all_one P f (here r) a = (f _ _ r a.0, a.1)
all_one P f (there o) a = (a.0, all_one P f o a.1)

all_map : {X : Type 0} (P Q : X → Type 0) (xs : List X) → ((x : X) → P x → Q x) → All P xs → All Q xs
all_map P Q [] f a = tt
all_map P Q (x ∷ xs) f a = (f x a.0, all_map P Q xs f a.1)

total_one : {X : Type 0} {R : X → X → Type 0} (f : X → ℕ) (c d : ℕ) {xs ys : List X} → ((x y : X) → R x y → f y + c ≡ f x + d) → One R xs ys → total f ys + c ≡ total f xs + d
total_one f c d h (here r) = let e = h _ _ r in omega arith
total_one f c d h (there o) = let e = total_one f c d h o in omega arith

total_less : {X : Type 0} (f : X → ℕ) (p : X) {xs ys : List X} → Less p xs ys → total f xs ≡ total f ys + f p
total_less f p first = omega arith
total_less f p (later l) = let e = total_less f p l in omega arith

-- what an entry draws and pours
draws : Entry → ℕ
draws (by_rain k p d r) = 0
draws (by_turn flow deep) = 0
draws (by_draw n (Ok p)) = n
draws (by_draw n (Err f)) = 0
draws (by_pour n r) = 0
draws (by_closing b) = 0
draws (by_question b) = 0

pours : Entry → ℕ
pours (by_rain k p d r) = 0
pours (by_turn flow deep) = 0
pours (by_draw n r) = 0
pours (by_pour n (Ok u)) = n
pours (by_pour n (Err f)) = 0
pours (by_closing b) = 0
pours (by_question b) = 0

added_drawn : (a : List ℕ) (e : Entry) (s : Sums) → (added a e s).drawn + 0 ≡ s.drawn + draws e
unfolding draws
added_drawn a (by_rain k p d (Ok o)) s = refl
added_drawn a (by_rain k p d (Err f)) s = refl
added_drawn a (by_turn flow deep) s = refl
added_drawn a (by_draw n (Ok p)) s = omega arith
added_drawn a (by_draw n (Err f)) s = refl
added_drawn a (by_pour n (Ok u)) s = refl
added_drawn a (by_pour n (Err f)) s = refl
added_drawn a (by_closing b) s = refl
added_drawn a (by_question b) s = refl

added_poured : (a : List ℕ) (e : Entry) (s : Sums) → (added a e s).poured + 0 ≡ s.poured + pours e
unfolding pours
added_poured a (by_rain k p d (Ok o)) s = refl
added_poured a (by_rain k p d (Err f)) s = refl
added_poured a (by_turn flow deep) s = refl
added_poured a (by_draw n (Ok p)) s = refl
added_poured a (by_draw n (Err f)) s = refl
added_poured a (by_pour n (Ok u)) s = omega arith
added_poured a (by_pour n (Err f)) s = refl
added_poured a (by_closing b) s = refl
added_poured a (by_question b) s = refl

-- a draw brings its amount to hand, a pour takes it
handed : (e : Entry) (v w : View) (ps qs : List Parcel) → Called v e w → Hands e ps qs → total (λ p. p.amount) qs + pours e ≡ total (λ p. p.amount) ps + draws e
unfolding draws pours
handed (by_rain k p d r) v w ps qs c h = ap (λ l. total (λ p. p.amount) l + 0) h
handed (by_turn flow deep) v w ps qs c h = ap (λ l. total (λ p. p.amount) l + 0) h
handed (by_draw n (Ok p)) v w ps qs c h = let e = total_less (λ q. q.amount) p h in omega (arith, c.1.parcel)
handed (by_draw n (Err f)) v w ps qs c h = ap (λ l. total (λ p. p.amount) l + 0) h
handed (by_pour n (Ok u)) v w ps qs c h = let e = total_one (λ q. q.amount) n 0 (λ x y r. omega (arith, r.0, r.1)) h in omega arith
handed (by_pour n (Err f)) v w ps qs c h = ap (λ l. total (λ p. p.amount) l + 0) h
handed (by_closing b) v w ps qs c h = ap (λ l. total (λ p. p.amount) l + 0) h
handed (by_question b) v w ps qs c h = ap (λ l. total (λ p. p.amount) l + 0) h

-- some call of the list was made
some_call : (e : Entry) {ss ts : List Story} (R : Type 0) → ((v w : View) → Called v e w → R) → One (Goes Called e) ss ts → R
some_call e R f (here g) = f _ _ g.called
some_call e R f (there o) = some_call e R f o

-- what every state of a run keeps
record Keeps (t : State) : Type 0 where
  stories : All Kept t.stories
  parcels : total (λ s. (whole s).drawn) t.stories ≡ total (λ s. (whole s).poured) t.stories + t.booked + total (λ p. p.amount) t.parcels

begun : (v : View) → New v → Kept (record { opened = v; entries = []; stands = v })
begun v n = record { acres = refl; count = refl; balanced = record { even = omega arith; book = n.sums; running = omega arith } }

joins : (v : View) (s : State) → New v → Keeps s → Keeps (joined v s)
joins v s n i = record { stories = (begun v n, i.stories); parcels = let p = i.parcels in omega arith }

called : (e : Entry) (s t : State) → Happens Called (call e) s t → Keeps s → Keeps t
called e s t h i =
    let d = total_one (λ s. (whole s).drawn) 0 (draws e) (λ a b g. ap (λ u. (whole u).drawn + 0) g.told ∙ added_drawn (areas a.opened.tracts) e (whole a)) h.0 in
    let p = total_one (λ s. (whole s).poured) 0 (pours e) (λ a b g. ap (λ u. (whole u).poured + 0) g.told ∙ added_poured (areas a.opened.tracts) e (whole a)) h.0 in
    let z : total (λ p. p.amount) t.parcels + pours e ≡ total (λ p. p.amount) s.parcels + draws e = some_call e _ (λ v w c. handed e v w s.parcels t.parcels c h.1) h.0 in
    record { stories = all_one Kept (goes e) h.0 i.stories; parcels = omega (arith, i.parcels, h.2) }

keeps : (h : Happening) (s t : State) → Happens Called h s t → Keeps s → Keeps t
keeps (opening v) s t h i = subst Keeps (sym h.1) (joins v s h.0 i)
keeps (call e) s t h i = called e s t h i
keeps (booking p n) s t h i =
    let a = ap (total (λ s. (whole s).drawn)) h.1 in
    let b = ap (total (λ s. (whole s).poured)) h.1 in
    let l = total_less (λ p. p.amount) p h.2 in
    record { stories = subst (All Kept) (sym h.1) i.stories; parcels = omega (arith, i.parcels, h.0, h.3) }

run : (hs : List Happening) (s t : State) → Ran Called hs s t → Keeps s → Keeps t
run [] s t r i = subst Keeps (sym r) i
run (h ∷ hs) s t r i = keeps h r.0 t r.2 (run hs s r.0 r.1 i)

-- the book's rain and poured water, by the tally
posted : (s : Story) → Kept s → s.stands.sums.rain + s.stands.sums.poured ≡ (since s).rain + (since s).poured
posted s i = let b = i.balanced.book in let r = ap (λ t. t.rain) b in let p = ap (λ t. t.poured) b in omega arith

acre_at : (s : Story) → Kept s → (k : ℕ) → acre s k ≡ (at s.stands.tracts k).area
acre_at s i k = ap (λ l. get_or l k 0) (sym i.acres) ∙ area_at s.stands.tracts k

refused : (s : Story) → Kept s → (k p d : ℕ) (f : Refusal) → Passed (rain_limits s.stands k p d) f → k < length s.opened.tracts → p ≤ 15000000 → d ≤ 1000000 → Over s k p
refused s i k p d f r a b c =
    let e = posted s i in
    let m = ap (λ n. p * n) (acre_at s i k) in
    ⊎_elim (λ x. absurd (omega (arith, i.count, x.0)))
    (λ x. ⊎_elim (λ y. absurd (omega (arith, y.0)))
    (λ y. ⊎_elim (λ z. absurd (omega (arith, z.0)))
    (λ z. ⊎_elim (λ u. inl u.0)
    (λ u. ⊎_elim (λ w. inr (inl (omega (arith, w.0))))
    (λ w. ⊎_elim (λ q. inr (inr (omega (arith, q.0)))) (λ q. absurd q.1) w.1) u.1) z.1) y.1) x.1) r

next : (s : Story) → Kept s → (e : Entry) (w : View) → Called s.stands e w → Rules s e w
next s i (by_rain k p d (Ok o)) w (a, r) =
    let e = posted s i in
    let n = acre_at s i k in
    let m = ap (λ n. p * n) n in
    let q = ap (λ n. d * n) n in
    let x = ap (λ x. x.1) r.answer in
    let l = mul-le-mul_right (at s.stands.tracts k).area r.rained.step.evaporation in
    (omega arith, ⊎_elim (λ y. omega (arith, a.1.1.1.0)) (⊎_elim (λ y. omega (arith, a.1.1.1.1.0)) (λ y. omega (arith, a.1.1.1.1.1.0))))
next s i (by_rain k p d (Err f)) w (a, r) = (r, refused s i k p d f a)
next s i (by_turn flow deep) w r = omega (arith, r.channel)
next s i (by_draw n (Ok p)) w (a, r) = (r.parcel, omega (arith, a.0), omega (arith, a.1.0))
next s i (by_draw n (Err f)) w (a, r) = (r, λ h. ⊎_elim (λ x. absurd (omega (arith, x.0))) (λ x. ⊎_elim (λ y. y.0) (λ y. absurd y.1) x.1) a)
next s i (by_pour n (Ok u)) w (a, r) = omega (arith, a.0)
next s i (by_pour n (Err f)) w (a, r) = r
next s i (by_closing b) w r = r.answer ∙ ap (λ t. record { sums = t; held = held s.stands }) i.balanced.book
next s i (by_question b) w (a, r) = (r, a ∙ ap (λ t. record { sums = t; held = held s.stands }) i.balanced.book)

lawful : (t : State) → Keeps t → Lawful Called t
lawful t i = record { balance = all_map Kept Balanced t.stories (λ s k. k.balanced) i.stories; parcels = i.parcels; next = all_map Kept (λ s. (e : Entry) (w : View) → Called s.stands e w → Rules s e w) t.stories next i.stories }

pub law : (v : View) → New v → Law Called v
law v n before s r after t q = lawful t (run after (joined v s) t q (joins v s n (run before nothing s r (record { stories = tt; parcels = refl }))))
