-- Hour by hour, each gains its portion.
use Rattle.std.proofs.Common.{ℕ, ◌+◌, get_or, sum, ap, ◌∙◌, arith}
use Rattle.std.proofs.lemmas.List.FromFn.{fill_by_all}
use Rattle.figures.specs.Portions.{portion}
use Rattle.storages.specs.Meaning.{whole}
use Rattle.delay.specs.Hours.{longest, added}
use Rattle.delay.proofs.Totals.{added_total}
use Rattle.delay.proofs.hours.spread.Goals as goal

pub returns : goal.returns
unfolding added
returns c =
    let v : ℕ = c.args.inflow in
    let ws = c.args.weights.now in
    let hs = c.args.hours in
    let e = fill_by_all (λ k. get_or hs k 0 + portion v whole ws k) c.loop-j.full longest 0 c.loop-j.invariant.2 (λ k l. c.loop-j.invariant.3 k (omega arith)) in
    record { hours = e; total = ap sum e ∙ added_total v ws hs (omega arith) (omega arith) c.requires.whole }
