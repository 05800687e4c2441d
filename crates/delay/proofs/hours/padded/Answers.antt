-- Zeros behind the weights.
use Rattle.std.proofs.Common.{◌≡◌, ℕ, ◌-◌, List, ◌++◌, length, drop, replicate, sum, ap, ◌∙◌, arith}
use Rattle.std.proofs.lemmas.List.{drop-replicate}
use Rattle.delay.specs.Hours.{padded, longest}
use Rattle.delay.proofs.Totals.{padded_total}
use Rattle.delay.proofs.hours.padded.Goals as goal

-- the weights written over the front of zeros
behind : (ws front : List ℕ) → front ≡ ws → front ++ drop (length ws - 0) (replicate longest 0) ≡ padded ws
behind ws front e =
    let same : length ws - 0 ≡ length ws = omega arith in
    let rest : drop (length ws - 0) (replicate longest 0) ≡ replicate (longest - length ws) 0 = ap (λ (k : ℕ). drop k (replicate longest 0)) same ∙ drop-replicate (length ws) longest 0 in
    ap (λ (f : List ℕ). f ++ drop (length ws - 0) (replicate longest 0)) e ∙ ap (λ (r : List ℕ). ws ++ r) rest

pub returns : goal.returns
returns c =
    let ws = c.args.weights.now in
    let e = behind ws c.copy_from_slice.new.self c.copy_from_slice.ensures.after in
    record { weights = e; total = ap sum e ∙ padded_total ws }
