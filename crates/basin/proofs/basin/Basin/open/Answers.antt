-- A basin is opened with what its bank and its channel hold, and the law holds of it.
use Rattle.std.proofs.Common.{refl, ap, ◌∙◌, arith}
use Rattle.banks.proofs.Rows.{volume_most}
use Rattle.basin.specs.Law.{fresh, New}
use Rattle.basin.specs.Basins.{view}
use Rattle.basin.proofs.Runs.{law}
use Rattle.basin.proofs.basin.Basin.open.Goals as goal

pub overflow_add-opening : goal.overflow_add-opening
overflow_add-opening g c =
    let a = volume_most (g.B.Bank.tracts c.args.bank) (g.met.B.Bank.bounded c.args.bank) in
    let b = g.met.C.Storage.within c.args.channel in
    let l = g.met.C.Storage.bounded c.args.channel in
    omega arith

pub returns : goal.returns
returns g c =
    let b = g.met.B.Bank.bounded c.args.bank in
    let l = g.met.C.Storage.bounded c.args.channel in
    let e = c.fresh.ensures in
    let o = ap (λ s. s.opening) e in
    let r = ap (λ s. s.rain) e in
    let f = ap (λ s. s.streamflow) e in
    let v = ap (λ s. s.evaporated) e in
    let d = ap (λ s. s.deep) e in
    let w = ap (λ s. s.drawn) e in
    let p = ap (λ s. s.poured) e in
    let new : New (view g.B.Bank g.C.Storage (record { bank = c.args.bank; channel = c.args.channel; pocket = 0; sums = c.fresh.result; room = omega arith; even = omega arith; opening = omega arith; fits = omega arith })) = record { bounded = b; pocket = refl; room = omega arith; small = l; sums = e ∙ ap fresh (omega arith) } in
    record {
      opened = ((omega arith, tt), (new, refl, refl));
      law = law _ new;
    }
