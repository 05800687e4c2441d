-- A rain's water: what falls on the segment is what stays there, runs off, evaporates and goes deep.
use Rattle.std.proofs.Common.{◌≡◌, ◌+◌, ◌*◌, ap, arith}
use Rattle.banks.specs.Rows.{at, volume, Rained}
use Rattle.banks.proofs.Rows.{rained_volume}
use Rattle.basin.proofs.basin.Basin.rain_admitted.Given as given
use Rattle.basin.proofs.basin.Basin.rain_admitted.Goals as goal
use Rattle.basin.proofs.basin.Basin.rain_admitted.Goals.{In-Ok}

-- how the bank rained
rained : (g : given.Over) (c : goal.In-Ok g) → Rained (g.B.Bank.tracts c.args.self.now.bank) c.args.segment c.args.depth c.args.demand (c.in-Ok.release, c.in-Ok.evaporated, c.in-Ok.deep) (g.B.Bank.tracts c.rain.new.self)
rained g c = g.met.B.Bank.rained c.args.self.now.bank c.rain.new.self c.args.segment c.args.depth c.args.demand (c.in-Ok.release, c.in-Ok.evaporated, c.in-Ok.deep) c.in-Ok.ensures.1

-- the water moved
moved : (g : given.Over) (c : goal.In-Ok g) → volume (g.B.Bank.tracts c.rain.new.self) + c.in-Ok.release * c.args.area + c.in-Ok.evaporated * c.args.area + c.in-Ok.deep * c.args.area ≡ volume (g.B.Bank.tracts c.args.self.now.bank) + c.args.depth * c.args.area
moved g c = rained_volume (g.B.Bank.tracts c.args.self.now.bank) c.args.segment c.args.depth c.args.demand (c.in-Ok.release, c.in-Ok.evaporated, c.in-Ok.deep) (g.B.Bank.tracts c.rain.new.self) c.args.area c.requires.area (rained g c)

-- the new water, by the segment's area
fall_is : (g : given.Over) (c : goal.In-Ok g) → c.args.depth * c.args.area ≡ c.args.depth * (at (g.B.Bank.tracts c.args.self.now.bank) c.args.segment).area
fall_is g c = ap (λ n. c.args.depth * n) c.requires.area

pub invariant_of-self : goal.invariant_of-self
invariant_of-self g c =
    let m = moved g (goal.at.invariant_of-self g c).In-Ok in
    let f = fall_is g (goal.at.invariant_of-self g c).In-Ok in
    let a = c.requires.limits in
    record { room = omega (arith, a.1.1.1.1.0); even = omega (arith, c.args.self.now.even); opening = c.args.self.now.opening; fits = omega (arith, a.1.1.1.1.1.0) }
