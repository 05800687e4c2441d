-- The loop over the fourteen records.
use Rattle.std.proofs.Common.{◌≡◌, ◌*◌, ◌/◌, length, Ok, Err, sym, ◌∙◌, arith, length-set, below_more}
use Rattle.std.proofs.lemmas.Result.{err_from_is_err_and}
use Rattle.card.specs.Fields.{name_at, figure_at}
use Rattle.card.specs.Entries.{given, entry_with}
use Rattle.card.proofs.Sheets.{record_read, entry_parts, err_part_entry, count_more, noted_more, no_fault, that_fault, all_some, all_ranged, all_said}
use Rattle.card.proofs.read.Goals as goal

pub returns-in_err-k-clause-refusal : goal.returns-in_err-k-clause-refusal
returns-in_err-k-clause-refusal c =
    let l = c.loop-i in
    let card = c.args.card.now in
    let p = err_from_is_err_and c.from_residual.result c.from_residual.ensures.1 in
    let e = err_part_entry card l.i l.figures (Err c.in_err-k.field-0.0) l.invariant.noted (c.in_err-k.ensures.value ∙ record_read card c.as_chunks.result.0.now (length card / 20) l.i (given l.figures) c.as_chunks.ensures.front (omega arith)) in
    rw (p.1, p.2) (sym (that_fault card l.i c.in_err-k.field-0.0 (omega arith) l.invariant.clean e))

pub loop-i-preserved : goal.loop-i-preserved
loop-i-preserved c =
    let l = c.loop-i in
    let card = c.args.card.now in
    let k = c.in_ok-k.k in
    let v = c.in_ok-k.v in
    let below = c.in_ok-k.ensures.below in
    let e : Ok (k, v) ≡ entry_with (given l.figures) (20 * l.i) (name_at card l.i) (figure_at card l.i) = c.in_ok-k.ensures.value ∙ record_read card c.as_chunks.result.0.now (length card / 20) l.i (given l.figures) c.as_chunks.ensures.front (omega arith) in
    let entry = entry_parts (given l.figures) (20 * l.i) (name_at card l.i) (figure_at card l.i) k v e in
    record {
      long = simp length-set (omega arith);
      full = omega (arith, count_more l.figures k v (omega arith) entry.fresh);
      clean = below_more _ _ l.invariant.clean (err_part_entry card l.i l.figures (Ok (k, v)) l.invariant.noted e);
      noted = noted_more card l.i l.figures k v entry l.invariant.noted l.invariant.long;
    }

pub values-requires : goal.values-requires
values-requires c = let l = c.loop-i in all_some c.args.card.now l.i l.figures (omega arith) l.invariant.noted l.invariant.long l.invariant.full

pub card_of-requires : goal.card_of-requires
card_of-requires c = let l = c.loop-i in all_ranged c.args.card.now l.i l.figures (omega arith) l.invariant.noted c.values.result c.values.ensures

pub returns-clause-refusal : goal.returns-clause-refusal
returns-clause-refusal c = sym (no_fault c.args.card.now c.loop-i.i (omega arith) c.loop-i.invariant.clean)

pub returns-clause-figures : goal.returns-clause-figures
returns-clause-figures c =
    let l = c.loop-i in
    all_said c.args.card.now l.i l.figures (omega arith) l.invariant.noted c.values.result c.values.ensures c.card_of.result c.card_of.ensures
