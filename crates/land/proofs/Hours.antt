-- The laws of the hour, part after part.
use Rattle.std.proofs.Common.{◌≡◌, ℕ, ◌+◌, ◌-◌, ◌≤◌, min, refl, mul-le-mul_right, arith}
use native.Mathlib.Nat.{div-le_of_le-mul}
use Rattle.figures.specs.Share.{share}
use Rattle.figures.specs.Power.{power}
use Rattle.figures.specs.Curve.{upper_part, ground_part}
use Rattle.figures.proofs.Shares.{share_le, share_grows}
use Rattle.figures.proofs.Sixteenths.{powered, power_grows}
use Rattle.card.specs.declared.checked.Card.{Card}
use Rattle.land.specs.declared.water.Zones.{Zones}
use Rattle.land.specs.declared.water.Surface.{Surface}
use Rattle.land.specs.declared.water.Division.{Division}
use Rattle.land.specs.declared.water.Seepage.{Seepage}
use Rattle.land.specs.declared.water.Drying.{Drying}
use Rattle.land.specs.Hour.{parts_of, surface_of, wetness_of, exponent_of, capacity_of, reach_of, division_of, kept_of, percolation_of, seepage_of, third_of, drying_of, opportunity_of, still}
use Rattle.land.specs.Laws.{HourLaws}
use Rattle.land.proofs.Bounds.{power_32, soaks_reaches}
use Rattle.figures.proofs.Heights.{upper_most, ground_most}

-- parts of a whole are at most the whole
parts_le : (k x : ℕ) → k ≤ 1048576 → parts_of k x ≤ x
parts_le k x h = div-le_of_le-mul 1048576 (mul-le-mul_right x h)

order : (f : Card) (m : ℕ) → m ≤ 32 → capacity_of f m ≤ reach_of f m
order f m h =
    let g : power m ≤ 262144 = omega (arith, power_grows m 32 h, power_32) in
    soaks_reaches f.infilt f.intfw (power (exponent_of m)) (power m) f.infilt_range.1 f.intfw_range.0 f.intfw_range.1 (powered (exponent_of m) (power (exponent_of m)) refl).least (powered m (power m) refl).least g

surface_law : (f : Card) (c p : ℕ) (s : Surface) → s ≡ surface_of f c p → (s.runoff + s.interception + s.supply ≡ c + p) × (c ≤ s.interception)
surface_law f c p s e = let q = parts_le f.impv p f.impv_range in (grind arith, grind arith)

division_law : (f : Card) (l x : ℕ) (d : Division) → d ≡ division_of f l x → (d.infiltration + d.interflow ≡ share x (reach_of f (wetness_of f l))) × (d.infiltration + d.interflow + d.slope ≡ x)
division_law f l x d e =
    let g = share_grows x (capacity_of f (wetness_of f l)) (reach_of f (wetness_of f l)) (order f (wetness_of f l) (omega arith)) in
    let h = share_le x (reach_of f (wetness_of f l)) in
    (grind arith, grind arith)

kept_law : (f : Card) (u s k : ℕ) → k ≡ kept_of f u s → k ≤ s
kept_law f u s k e = let q = parts_le (upper_part f.uzsn u) s (upper_most f.uzsn u) in omega arith

seepage_law : (f : Card) (u l w : ℕ) (g : Seepage) → g ≡ seepage_of f u l w → (g.groundwater + g.lower ≡ w + percolation_of f u l + l) × (g.upper + g.lower + g.groundwater ≡ u + l + w)
seepage_law f u l w g e =
    let q = parts_le (ground_part f.lzsn l) (w + percolation_of f u l) (ground_most f.lzsn l) in
    (grind arith, grind arith)

drying_law : (f : Card) (z : Zones) (e : ℕ) (d : Drying) → d ≡ drying_of f z e → (still d.zones + d.evaporated ≡ still z) × (d.evaporated + d.demand ≤ e)
drying_law f z e d h =
    let left : ℕ = e - min z.interception e - min z.upper (e - min z.interception e) in
    let s = share_le left (opportunity_of f z.lower) in
    let q = parts_le f.agwetp (left - third_of f z e) (omega (arith, f.agwetp_range)) in
    (grind arith, grind arith)

pub laws : HourLaws
laws f z p e r h =
    let s = surface_law f z.interception p h.surface h.reaches in
    let d = division_law f z.lower h.surface.supply h.division h.divides in
    let k = kept_law f z.upper h.division.slope h.kept h.keeps in
    let g = seepage_law f (z.upper + h.kept) z.lower h.division.infiltration h.seepage h.seeps in
    let y = drying_law f (record { interception = h.surface.interception; upper = h.seepage.upper; lower = h.seepage.lower }) e h.drying h.dries in
    record {
      rain = grind arith;
      slope = omega (arith, d.1);
      interflow = d.0;
      seepage = g.0;
      evaporation = grind arith;
      balance = grind arith;
    }
