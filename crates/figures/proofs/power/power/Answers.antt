-- The shifted entry is the power: 17 bits moved by at most 15 stay within 64.
use Rattle.std.proofs.Common.{ℕ, ◌*◌, ◌/◌, ◌%◌, ◌^◌, ap, ◌∙◌, arith}
use Rattle.std.proofs.lemmas.Nat.{shl_whole}
use Rattle.figures.specs.Power.{power}
use Rattle.figures.proofs.Sixteenths.{entry_small, powered, table_stands}
use Rattle.figures.proofs.power.power.Goals as goal

pub returns : goal.returns
unfolding power
returns c =
    let e : ℕ = c.args.e in
    let small = entry_small (e % 16) (omega arith) in
    let shifted = shl_whole c.sixteenth.result 17 (e / 16) 64 (omega (arith, c.sixteenth.ensures)) (omega arith) in
    record { powered = powered e _ (shifted ∙ ap (λ (t : ℕ). t * 2 ^ (e / 16)) c.sixteenth.ensures); table = table_stands }
