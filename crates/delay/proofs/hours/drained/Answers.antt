-- Hour by hour, each loses what is left of the draw.
use Rattle.std.proofs.Common.{ℕ, ◌+◌, ◌-◌, get_or, sum, ap, ◌∙◌, arith}
use Rattle.std.proofs.lemmas.List.FromFn.{fill_by_all}
use Rattle.figures.specs.Portions.{first}
use Rattle.delay.specs.Hours.{longest, drained}
use Rattle.delay.proofs.Totals.{drained_total}
use Rattle.delay.proofs.hours.drained.Goals as goal

pub returns : goal.returns
unfolding drained
returns c =
    let n : ℕ = c.args.amount in
    let hs = c.args.hours in
    let e = fill_by_all (λ k. get_or hs k 0 - (n - first hs k)) c.loop-hour.hour-items longest 0 c.loop-hour.invariant.1 (λ k l. c.loop-hour.invariant.2 k (omega arith)) in
    record { hours = e; total = ap (λ t. t + n) (ap sum e) ∙ drained_total n hs (omega arith) c.requires }
