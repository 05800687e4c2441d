-- Two rows as one: what holds of a segment of either holds of it in the joined row.
use Rattle.std.specs.Prelude.{◌≡◌, ℕ, ◌+◌, ◌-◌, ◌<◌, ◌≤◌, List, [], ◌∷◌, ◌++◌, length, slice_set, refl}
use Rattle.std.proofs.Common.{sym, ap, subst, ◌∙◌, ⊎_elim, arith}
use Rattle.std.proofs.lemmas.List.{get_or_append_left, get_or-append_right, get_or-append-add, length-append, set-append_left, set-append_right}
use Rattle.std.proofs.lemmas.Bool.{cases_lt}
use Rattle.storages.specs.Meaning.{Out, Stepped}
use Rattle.banks.specs.declared.tract.Tract.{Tract}
use Rattle.banks.specs.Rows.{tract, at, volume, Fit, Bounded, Rained}

pub left : (xs ys : List Tract) (k : ℕ) → k < length xs → at (xs ++ ys) k ≡ at xs k
left xs ys k h = get_or_append_left xs ys (tract 0 0 0) k h

-- past the first row, whose length is n
pub right : (xs ys : List Tract) (n k : ℕ) → length xs ≡ n → n ≤ k → at (xs ++ ys) k ≡ at ys (k - n)
right xs ys n k e h = get_or-append_right xs ys n k (tract 0 0 0) e h

right_at : (xs ys : List Tract) (j : ℕ) → at (xs ++ ys) (length xs + j) ≡ at ys j
right_at xs ys j = get_or-append-add xs ys j (tract 0 0 0)

pub volume_joined : (xs ys : List Tract) → volume (xs ++ ys) ≡ volume xs + volume ys
volume_joined [] ys = omega arith
volume_joined (x ∷ xs) ys = let i = volume_joined xs ys in omega arith

each : (P : Tract → Type 0) (xs ys : List Tract) (k : ℕ) → (k < length xs → P (at xs k)) → (length xs ≤ k → P (at ys (k - length xs))) → P (at (xs ++ ys) k)
each P xs ys k f g = ⊎_elim (λ h. subst P (sym (left xs ys k h)) (f h)) (λ h. subst P (sym (right xs ys (length xs) k refl h)) (g h)) (cases_lt k (length xs))

pub bounded : (xs ys : List Tract) → Bounded xs → Bounded ys → length xs + length ys ≤ 16 → Bounded (xs ++ ys)
bounded xs ys a b n = record {
  some = simp length-append (omega (arith, a.some));
  few = simp length-append n;
  each = λ k h. let h' : k < length xs + length ys = simp length-append at h in each Fit xs ys k (a.each k) (λ l. b.each (k - length xs) (omega arith));
}

-- a step of one segment, told of an equal segment
moved : (t u : Tract) → t ≡ u → (i d : ℕ) (o : Out) (c : ℕ) → Stepped t.content t.ceiling i d o c t.ceiling → Stepped u.content u.ceiling i d o c u.ceiling
moved t u e i d o c s = subst (λ x. Stepped x.content x.ceiling i d o c x.ceiling) e s

pub rained_left : (xs ys : List Tract) (k i d : ℕ) (o : Out) (zs : List Tract) → Rained xs k i d o zs → Rained (xs ++ ys) k i d o (zs ++ ys)
rained_left xs ys k i d o zs r = record {
  there = simp length-append (omega (arith, r.there));
  content = r.content;
  step = moved (at xs k) (at (xs ++ ys) k) (sym (left xs ys k r.there)) i d o r.content r.step;
  after = ap (λ l. l ++ ys) r.after ∙ sym (set-append_left xs ys k _ r.there) ∙ ap (λ t. slice_set (xs ++ ys) k (tract t.area r.content t.ceiling)) (sym (left xs ys k r.there));
}

pub rained_right : (xs ys : List Tract) (j i d : ℕ) (o : Out) (zs : List Tract) → Rained ys j i d o zs → Rained (xs ++ ys) (length xs + j) i d o (xs ++ zs)
rained_right xs ys j i d o zs r =
    let e : length xs + j - length xs ≡ j = omega arith in
    record {
      there = simp length-append (omega (arith, r.there));
      content = r.content;
      step = moved (at ys j) (at (xs ++ ys) (length xs + j)) (sym (right_at xs ys j)) i d o r.content r.step;
      after = ap (λ l. xs ++ l) r.after ∙ ap (λ n. xs ++ slice_set ys n (tract (at ys j).area r.content (at ys j).ceiling)) (sym e) ∙ sym (set-append_right xs ys (length xs) (length xs + j) _ refl (omega arith)) ∙ ap (λ t. slice_set (xs ++ ys) (length xs + j) (tract t.area r.content t.ceiling)) (sym (right_at xs ys j));
    }
