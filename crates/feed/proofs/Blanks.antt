-- A part is refused at its first byte that is not zero.
use Rattle.std.proofs.Common.{◌≡◌, ℕ, ◌+◌, not, eqb, List, [], ◌∷◌, Option, Some, None, Ok, Err, Result, refl, ap, ◌∙◌, arith}
use Rattle.std.specs.List.{position, position_from}
use Rattle.std.proofs.lemmas.Iterator.Adapters.{position_from-zero}
use Rattle.refusals.specs.declared.Refusal.{Refusal}
use Rattle.refusals.specs.declared.Refusal.TheVariants.{NotZero}
use Rattle.feed.specs.Reading.{blank}

-- the answer, where the search for such a byte answers r
abbrev pub refused : ℕ → Option ℕ → Result (Unit {0}) Refusal
refused at None = Ok tt
refused at (Some i) = Err (NotZero (at + i))

blank_from : (at i : ℕ) (bs : List ℕ) → refused at (position_from (λ b. not (eqb b 0)) i bs) ≡ blank (at + i) bs
blank_from at i [] = refl
blank_from at i (b ∷ bs) = grind (arith, blank_from at (i + 1) bs)

pub blank_at : (at : ℕ) (bs : List ℕ) → refused at (position (λ b. not (eqb b 0)) bs) ≡ blank at bs
blank_at at bs =
    ap (refused at) (position_from-zero (λ b. not (eqb b 0)) bs)
    ∙ blank_from at 0 bs
    ∙ ap (λ (k : ℕ). blank k bs) (omega arith)
