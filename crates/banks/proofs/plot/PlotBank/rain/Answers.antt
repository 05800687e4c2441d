-- A plot's rain is its storage's step.
use Rattle.std.proofs.Common.{refl, arith}
use Rattle.banks.specs.Kinds.{plot_tract}
use Rattle.banks.proofs.Rains.{same_plot, rains_alone}
use Rattle.banks.proofs.plot.PlotBank.rain.Goals as goal

pub returns : goal.returns
returns g c =
    rains_alone (plot_tract g.S.Storage c.args.self.now) c.args.segment c.args.depth c.hour.result _ _ _ _ (omega arith)
    (λ o h. (omega arith, h.0, refl)) (λ e. same_plot g.S.Storage _ _ e refl) c.hour.ensures.answers
