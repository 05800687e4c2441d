-- What is left of the knots gives the value that all of them give.
use Rattle.std.proofs.Common.{◌≡◌, ◌≤◌, drop}
use Rattle.figures.specs.Curve.{curve, along}
use Rattle.figures.proofs.curve.read.Given as goal

abbrev pub invariant-loop-knot : goal.invariant-loop-knot
invariant-loop-knot l = record {
  rest : curve l.nominal l.content l.fn.first.parts l.knots ≡ along l.nominal l.content l.last.0 l.last.1.0.parts (drop l.knot-index l.knots);
  past : l.last.0 ≤ l.content;
}
