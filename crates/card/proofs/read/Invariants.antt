-- No record so far is refused; the figures are those of the records so far, as many as these.
use Rattle.std.proofs.Common.{◌≡◌, length, count_by}
use Rattle.std.specs.Option.{is_some}
use Rattle.card.proofs.Sheets.{Noted, Clean}
use Rattle.card.proofs.read.Given as goal

abbrev pub invariant-loop-i : goal.invariant-loop-i
invariant-loop-i l = record {
  long : length l.figures ≡ 14;
  full : count_by is_some l.figures ≡ l.i;
  clean : Clean l.card l.i;
  noted : Noted l.card l.i l.figures;
}
