-- A refused draw leaves the channel, and so the basin, as it was.
use Rattle.std.proofs.Common.{refl}
use Rattle.std.proofs.lemmas.Result.{MatchResult-from_err}
use Rattle.basin.proofs.Basins.{same_basin}
use Rattle.basin.proofs.basin.Basin.draw.Goals as goal

pub returns-in_err-draw-clause-moved : goal.returns-in_err-draw-clause-moved
returns-in_err-draw-clause-moved g c =
    let e = c.in_err-draw.ensures {u = tt} in
    MatchResult-from_err c.from_residual.result _ _ c.from_residual.ensures.0 (λ f. same_basin g.B.Bank g.C.Storage _ c.args.self.now refl e.1 refl refl)
