-- The hour on a segment, part after part, by the figures of a checked card. All amounts are depths.
--   parts_of k x   k parts of 1,048,576 of x
--   surface_of     rain before it reaches the ground: run-off, interception, supply
--   division_of    the supply: infiltration, interflow, slope water
--   kept_of        what the upper zone keeps of slope water
--   seepage_of     percolation, and the one division between groundwater and lower zone
--   drying_of      evaporation, in its order
--   Hour           all of them, each reading what it should
use Rattle.std.specs.Prelude.{◌≡◌, ℕ, ◌+◌, ◌-◌, ◌*◌, ◌/◌, min, cond, nat_le}
use Rattle.figures.specs.Share.{share}
use Rattle.figures.specs.Power.{power}
use Rattle.figures.specs.Curve.{upper_part, ground_part}
use Rattle.card.specs.declared.checked.Card.{Card}
use Rattle.land.specs.declared.water.Zones.{Zones}
use Rattle.land.specs.declared.water.Surface.{Surface}
use Rattle.land.specs.declared.water.Division.{Division}
use Rattle.land.specs.declared.water.Seepage.{Seepage}
use Rattle.land.specs.declared.water.Drying.{Drying}
use Rattle.land.specs.declared.water.Flows.{Flows}

abbrev pub parts_of : ℕ → ℕ → ℕ
parts_of k x = k * x / 1048576

-- what interception c catches of rain p, after run-off
abbrev pub caught_of : Card → (c p : ℕ) → ℕ
caught_of f c p = min (p - parts_of f.impv p) (f.cepsc - c)

-- rain p on an interception that holds c
abbrev pub surface_of : Card → (c p : ℕ) → Surface
surface_of f c p = record { runoff = parts_of f.impv p; interception = c + caught_of f c p; supply = p - parts_of f.impv p - caught_of f c p }

-- sixteenths of the nominal content in a lower zone l, at most 32
abbrev pub wetness_of : Card → (l : ℕ) → ℕ
wetness_of f l = min 32 (16 * l / f.lzsn)

abbrev pub exponent_of : ℕ → ℕ
exponent_of m = cond (nat_le m 16) (4 * m) (32 + 2 * m)

-- the greatest capacity to infiltrate, at wetness m
abbrev pub capacity_of : Card → (m : ℕ) → ℕ
capacity_of f m = 32 * f.infilt * 65536 / power (exponent_of m)

-- the greatest capacity to infiltrate or to pass to interflow
abbrev pub reach_of : Card → (m : ℕ) → ℕ
reach_of f m = f.intfw * power m / 100 * capacity_of f m / 65536

-- a supply x over a lower zone l
abbrev pub division_of : Card → (l x : ℕ) → Division
division_of f l x = record { infiltration = share x (capacity_of f (wetness_of f l)); interflow = share x (reach_of f (wetness_of f l)) - share x (capacity_of f (wetness_of f l)); slope = x - share x (reach_of f (wetness_of f l)) }

-- slope water s on an upper zone u
abbrev pub kept_of : Card → (u s : ℕ) → ℕ
kept_of f u s = parts_of (upper_part f.uzsn u) s

-- 1,024ths by which the upper zone is the wetter, at most 4,096
abbrev pub excess_of : Card → (u l : ℕ) → ℕ
excess_of f u l = min 4096 (1024 * u / f.uzsn - 1024 * l / f.lzsn)

abbrev pub percolation_of : Card → (u l : ℕ) → ℕ
percolation_of f u l = min u (f.infilt * f.uzsn / 10000000 * (excess_of f u l * excess_of f u l * excess_of f u l) / 1073741824)

-- infiltration w over an upper zone u and a lower zone l: one division of the sum, and the rest to the lower zone
abbrev pub seepage_of : Card → (u l w : ℕ) → Seepage
seepage_of f u l w = record {
  upper = u - percolation_of f u l;
  lower = l + (w + percolation_of f u l - parts_of (ground_part f.lzsn l) (w + percolation_of f u l));
  groundwater = parts_of (ground_part f.lzsn l) (w + percolation_of f u l);
}

-- the most that a lower zone l could give up in an hour anywhere on the segment
abbrev pub opportunity_of : Card → (l : ℕ) → ℕ
opportunity_of f l = 250000 * 1048576 / (24 * (1048576 - f.lzetp)) * l / f.lzsn

-- what the lower zone gives up of the demand e that interception and upper zone left unmet
abbrev pub third_of : Card → Zones → (e : ℕ) → ℕ
third_of f z e = min z.lower (share (e - min z.interception e - min z.upper (e - min z.interception e)) (opportunity_of f z.lower))

-- demand e on zones z
abbrev pub drying_of : Card → Zones → (e : ℕ) → Drying
drying_of f z e = record {
  zones = record { interception = z.interception - min z.interception e; upper = z.upper - min z.upper (e - min z.interception e); lower = z.lower - third_of f z e };
  evaporated = min z.interception e + min z.upper (e - min z.interception e) + third_of f z e;
  demand = parts_of f.agwetp (e - min z.interception e - min z.upper (e - min z.interception e) - third_of f z e);
}

-- what the zones hold
abbrev pub still : Zones → ℕ
still z = z.interception + z.upper + z.lower

-- the ceiling over three storages: the least of theirs and 10^8
abbrev pub least_of : (slope interflow groundwater : ℕ) → ℕ
least_of a b c = min (min (min a b) c) 100000000

-- what leaves them
abbrev pub sent : Flows → ℕ
sent r = r.runoff + r.slope + r.interflow + r.groundwater + r.evaporated

-- the whole hour: rain p and demand e on zones z. What the upper zone keeps is read off it as the hour began, and so are the
-- lower zone's wetness and groundwater's part off the lower zone; percolation reads the upper zone with what it has kept.
pub record Hour (f : Card) (z : Zones) (p e : ℕ) (r : Flows) : Type 0 where
  pub surface : Surface
  pub division : Division
  pub kept : ℕ
  pub seepage : Seepage
  pub drying : Drying
  pub reaches : surface ≡ surface_of f z.interception p
  pub divides : division ≡ division_of f z.lower surface.supply
  pub keeps : kept ≡ kept_of f z.upper division.slope
  pub seeps : seepage ≡ seepage_of f (z.upper + kept) z.lower division.infiltration
  pub dries : drying ≡ drying_of f (record { interception = surface.interception; upper = seepage.upper; lower = seepage.lower }) e
  pub result : r ≡ record { zones = drying.zones; runoff = surface.runoff; slope = division.slope - kept; interflow = division.interflow; groundwater = seepage.groundwater; evaporated = drying.evaporated; demand = drying.demand }
