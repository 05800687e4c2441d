-- The digits that are left, after the number so far, write the whole number.
use Rattle.std.proofs.Common.{◌≡◌, ◌^◌, ◌<◌, drop}
use Rattle.card.specs.Figures.{number_from}
use Rattle.card.proofs.figures.number.Given as goal

abbrev pub invariant-loop-digit : goal.invariant-loop-digit
invariant-loop-digit l = (l.n < 10 ^ l.digit-index) × (number_from l.n (drop l.digit-index l.text) ≡ number_from 0 l.text)
