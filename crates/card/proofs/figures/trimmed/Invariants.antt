-- What is left of the text has the same digits.
use Rattle.std.proofs.Common.{◌≡◌, ◌≤◌, length}
use Rattle.card.specs.Figures.{unblanked}
use Rattle.card.proofs.figures.trimmed.Given as goal

abbrev pub invariant-loop-rest : goal.invariant-loop-rest
invariant-loop-rest l = (unblanked l.rest ≡ unblanked l.text) × (length l.rest ≤ length l.text)

abbrev pub decreases-loop-rest : goal.decreases-loop-rest
decreases-loop-rest l = length l.rest
