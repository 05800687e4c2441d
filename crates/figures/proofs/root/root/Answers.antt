-- The last number whose cube fits is the greatest, and the only one.
use Rattle.std.proofs.Common.{ℕ, ◌*◌, ◌≤◌, subst}
use Rattle.figures.specs.Root.{Root, cube}
use Rattle.figures.proofs.Cubes.{greatest_cube, one_greatest}
use Rattle.figures.proofs.root.root.Goals as goal

pub returns : goal.returns
returns c =
    let y : ℕ = c.args.y in
    let w : ℕ = c.from-wide.result in
    let g : Root y c.raised.result = subst (λ n. Root n c.raised.result) c.from-wide.ensures (greatest_cube (w * w) c.raised.result c.raised.ensures.fits c.raised.ensures.past) in
    record { root = g; only = λ d h. one_greatest (λ e. cube e ≤ y * y) d c.raised.result h g }
