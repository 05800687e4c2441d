-- A pair's rain is that of the bank which has the segment.
use Rattle.std.proofs.Common.{◌++◌, Some, inl, inr, subst, arith}
use Rattle.banks.specs.Kinds.{Placed}
use Rattle.banks.specs.declared.pair.Place.TheVariants.{First, Second}
use Rattle.banks.proofs.Rains.{same_pair, rains_there}
use Rattle.banks.proofs.pair.PairBank.rain.Goals as goal

pub returns-in-Some-First : goal.returns-in-Some-First
returns-in-Some-First g c =
    let xs = g.F.Bank.tracts c.args.self.now.first in
    let ys = g.S.Bank.tracts c.args.self.now.second in
    let p : Placed xs ys c.args.segment (Some (First c.in-Some-First.k)) = subst (λ q. Placed xs ys c.args.segment (Some q)) c.in-Some-First.field-0-is (c.in-Some-First.ensures {u = tt}) in
    rains_there xs (xs ++ ys) c.in-Some-First.k c.args.segment c.args.depth c.rain_on_first.result _ _ _ _ (omega (arith, p.0, p.1, p.2)) p.3
    (λ o h. inl (omega (arith, p.0, p.1), subst (λ n. g.F.Bank.rains c.args.self.now.first n c.args.depth c.args.demand o c.rain_on_first.new.self.first) p.0 h, c.rain_on_first.ensures.other))
    (λ e. same_pair g.F.Bank g.S.Bank _ _ e c.rain_on_first.ensures.other) c.rain_on_first.ensures.rains

pub returns-in-Some-Second : goal.returns-in-Some-Second
returns-in-Some-Second g c =
    let xs = g.F.Bank.tracts c.args.self.now.first in
    let ys = g.S.Bank.tracts c.args.self.now.second in
    let p : Placed xs ys c.args.segment (Some (Second c.in-Some-Second.k)) = subst (λ q. Placed xs ys c.args.segment (Some q)) c.in-Some-Second.field-0-is (c.in-Some-Second.ensures {u = tt}) in
    rains_there ys (xs ++ ys) c.in-Some-Second.k c.args.segment c.args.depth c.rain_on_second.result _ _ _ _ (omega (arith, p.0, p.1, p.2)) p.3
    (λ o h. inr (c.in-Some-Second.k, p.0, h, c.rain_on_second.ensures.other))
    (λ e. same_pair g.F.Bank g.S.Bank _ _ c.rain_on_second.ensures.other e) c.rain_on_second.ensures.rains
