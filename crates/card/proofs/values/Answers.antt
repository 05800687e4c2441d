-- Each item that `map` comes to is one of the figures, and so is there.
use Rattle.std.proofs.Common.{ℕ, suc, List, [], ◌∷◌, None, Option, All, IsSome, subst, arith, lit<, rules}
use Rattle.std.specs.Array.{list_steps}
use Rattle.std.specs.Iterator.{Yields}
use Rattle.card.proofs.values.Goals as goal

rest_some : (xs s t : List (Option ℕ)) → Yields list_steps s xs t → All IsSome s → All IsSome t
rest_some [] s t e h = subst (All IsSome) e h
rest_some (x ∷ xs) s t y h = rest_some xs y.0 t y.2 (λ k d lt. subst (All IsSome) y.1 h (suc k) d (omega arith))

pub map-requires : goal.map-requires
map-requires c = (
  lit< tt,
  (
    lit< tt,
    (
      lit< tt,
      record {
        at = λ xs t q x u y f step. let h : IsSome x = subst (All IsSome) step (rest_some xs c.args.figures t y c.requires) 0 None (omega arith) in search rules;
      },
    ),
  ),
)
