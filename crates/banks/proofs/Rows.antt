-- What a rain does to a row of segments: the water it moves, and what it leaves alone.
use Rattle.std.proofs.Common.{◌≡◌, ℕ, zero, suc, ◌+◌, ◌*◌, ◌<◌, ◌≤◌, List, [], ◌∷◌, length, get_or, set, sym, refl, ap, ◌∙◌, mul_comm, mul-add, arith, length-set}
use Rattle.std.proofs.lemmas.Nat.{mul-le}
use Rattle.storages.specs.Meaning.{Out}
use Rattle.banks.specs.declared.tract.Tract.{Tract}
use Rattle.banks.specs.Rows.{tract, at, volume, areas, Fit, Bounded, Rained}

-- the water on one segment
pub tract_volume : (t : Tract) → Fit t → t.area * t.content ≤ 500000000000
tract_volume t f = mul-le t.area t.content 5000 100000000 f.area (omega (arith, f.content, f.ceiling))

volume_each : (ts : List Tract) → ((k : ℕ) → k < length ts → Fit (at ts k)) → volume ts ≤ length ts * 500000000000
volume_each [] f = omega arith
volume_each (t ∷ ts) f =
    let x = tract_volume t (f 0 (omega arith)) in
    let y = volume_each ts (λ k h. f (suc k) (omega arith)) in
    omega arith

-- the water on a bank is at most the greatest ceiling
pub volume_most : (ts : List Tract) → Bounded ts → volume ts ≤ 8000000000000
volume_most ts b = omega (arith, volume_each ts b.each, b.few)

pub volume_set : (ts : List Tract) (k : ℕ) (t : Tract) → k < length ts → volume (set ts k t) + (at ts k).area * (at ts k).content ≡ volume ts + t.area * t.content
volume_set [] k t h = absurd (omega arith)
volume_set (u ∷ ts) zero t h = omega arith
volume_set (u ∷ ts) (suc k) t h = let h' : k < length ts = omega arith in let i = volume_set ts k t h' in omega arith

areas_set : (ts : List Tract) (k : ℕ) (t : Tract) → t.area ≡ (at ts k).area → areas (set ts k t) ≡ areas ts
areas_set [] k t e = refl
areas_set (u ∷ ts) zero t e = ap (λ a. a ∷ areas ts) e
areas_set (u ∷ ts) (suc k) t e = ap (λ l. u.area ∷ l) (areas_set ts k t e)

pub area_at : (ts : List Tract) (k : ℕ) → get_or (areas ts) k 0 ≡ (at ts k).area
area_at [] k = refl
area_at (u ∷ ts) zero = refl
area_at (u ∷ ts) (suc k) = area_at ts k

-- a step's balance, times an area
scaled : (a c' r e d c p : ℕ) → c' + (r + e + d) ≡ c + p → a * c' + (r * a + e * a + d * a) ≡ a * c + p * a
scaled a c' r e d c p h =
    let x : a * (c' + (r + e + d)) ≡ a * (c + p) = ap (λ n. a * n) h in
    let y : a * c' + (a * r + a * e + a * d) ≡ a * c + a * p = sym (mul-add a c' (r + e + d) ∙ ap (λ n. a * c' + n) (mul-add a (r + e) d ∙ ap (λ n. n + a * d) (mul-add a r e))) ∙ x ∙ mul-add a c p in
    omega (arith, mul_comm a r, mul_comm a e, mul_comm a d, mul_comm a p)

-- a granted rain moves water, and makes and loses none
pub rained_volume : (ts : List Tract) (k p d : ℕ) (o : Out) (us : List Tract) (a : ℕ) → a ≡ (at ts k).area → Rained ts k p d o us → volume us + o.0 * a + o.1 * a + o.2 * a ≡ volume ts + p * a
rained_volume ts k p d o us a q r =
    let m = volume_set ts k (tract (at ts k).area r.content (at ts k).ceiling) r.there in
    let e = ap volume r.after in
    let s = scaled a r.content o.0 o.1 o.2 (at ts k).content p r.step.balance in
    let x = ap (λ n. n * (at ts k).content) q in
    let y = ap (λ n. n * r.content) q in
    omega arith

-- it keeps the areas and the number of segments
pub rained_areas : (ts : List Tract) (k p d : ℕ) (o : Out) (us : List Tract) → Rained ts k p d o us → areas us ≡ areas ts
rained_areas ts k p d o us r = ap areas r.after ∙ areas_set ts k _ refl

pub rained_length : (ts : List Tract) (k p d : ℕ) (o : Out) (us : List Tract) → Rained ts k p d o us → length us ≡ length ts
rained_length ts k p d o us r = ap length r.after ∙ length-set ts k _
