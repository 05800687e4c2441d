-- The part is refused where the first byte that is not zero stands.
use Rattle.std.proofs.Common.{sym, ap, ◌∙◌}
use Rattle.feed.proofs.Blanks.{refused, blank_at}
use Rattle.feed.proofs.zeros.Goals as goal

pub returns-in-Some : goal.returns-in-Some
returns-in-Some c = ap (refused c.args.at) (sym c.in-Some.is ∙ c.first_nonzero.ensures) ∙ blank_at c.args.at c.args.part.now

pub returns-in-None : goal.returns-in-None
returns-in-None c = ap (refused c.args.at) (sym c.in-None.is ∙ c.first_nonzero.ensures) ∙ blank_at c.args.at c.args.part.now
