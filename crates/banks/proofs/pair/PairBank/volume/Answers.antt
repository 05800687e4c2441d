-- The water on a pair is that on its two banks.
use Rattle.std.proofs.Common.{arith}
use Rattle.banks.proofs.Rows.{volume_most}
use Rattle.banks.specs.Joined.{volume_joined}
use Rattle.banks.proofs.pair.PairBank.volume.Goals as goal

pub overflow_add-result : goal.overflow_add-result
overflow_add-result g c =
    let a = volume_most (g.F.Bank.tracts c.args.self.now.first) (g.met.F.Bank.bounded c.args.self.now.first) in
    let b = volume_most (g.S.Bank.tracts c.args.self.now.second) (g.met.S.Bank.bounded c.args.self.now.second) in
    omega arith

pub returns : goal.returns
returns g c = let v = volume_joined (g.F.Bank.tracts c.args.self.now.first) (g.S.Bank.tracts c.args.self.now.second) in omega arith
