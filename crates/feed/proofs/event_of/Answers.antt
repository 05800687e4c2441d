-- What the pattern took is the record.
use Rattle.std.proofs.Common.{ap, ◌∙◌}
use Rattle.feed.specs.Reading.{lettered}
use Rattle.feed.proofs.Layouts.{read_layout}
use Rattle.feed.proofs.Records.{taken_apart}
use Rattle.feed.proofs.event_of.Goals as goal

pub returns : goal.returns
returns c =
    let bytes = c.args.bytes.now in
    let whole = c.in-Some.ensures.cases in
    let p = taken_apart bytes c.in-Some.rest.now whole.long whole.same in
    let e = c.by_letter.ensures ∙ ap lettered p.1 in
    record { value = e; layout = read_layout bytes p.0 (λ k. (c.type_inv.bytes k).fits) c.by_letter.result e }
