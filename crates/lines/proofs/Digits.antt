-- The digits of a number, taken off two at a time.
use Rattle.std.proofs.Common.{◌≡◌, ℕ, ◌+◌, ◌*◌, ◌/◌, ◌%◌, ◌^◌, ◌<◌, ◌≤◌, List, [], ◌∷◌, ◌++◌, length, decimal, ap, ◌∙◌, append_assoc, arith, length-append}
use Rattle.std.proofs.lemmas.Fmt.{decimal_step, decimal_digit, length-decimal-le}

-- a number of three digits or more ends in two digits
pub decimal_pair : (n : ℕ) → 100 ≤ n → n < 2 ^ 64 → decimal n ≡ decimal (n / 100) ++ ((48 + n % 100 / 10) ∷ (48 + n % 100 % 10) ∷ [])
decimal_pair n more small =
    let low : n % 10 ≡ n % 100 % 10 = omega arith in
    let rest : n / 10 / 10 ≡ n / 100 = omega arith in
    let high : n / 10 % 10 ≡ n % 100 / 10 = omega arith in
    decimal_step n (omega arith) small
    ∙ ap (λ (ds : List ℕ). ds ++ ((48 + n % 10) ∷ [])) (decimal_step (n / 10) (omega arith) (omega arith))
    ∙ append_assoc (decimal (n / 10 / 10)) ((48 + n / 10 % 10) ∷ []) ((48 + n % 10) ∷ [])
    ∙ (λ i. decimal (rest i) ++ ((48 + high i) ∷ (48 + low i) ∷ []))

-- a number of two digits
pub decimal_two : (n : ℕ) → 10 ≤ n → n < 100 → decimal n ≡ (48 + n / 10) ∷ (48 + n % 10) ∷ []
decimal_two n more small =
    decimal_step n more (omega arith)
    ∙ ap (λ (ds : List ℕ). ds ++ ((48 + n % 10) ∷ [])) (decimal_digit (n / 10) (omega arith))

-- a figure has at most twenty digits
pub short : (n : ℕ) → n < 2 ^ 64 → length (decimal n) ≤ 20
short n small = length-decimal-le 20 n (omega arith) (omega arith) small

-- by which the digits of a number are those that were put down
pub ruleset digits = (decimal_digit, decimal_two, decimal_pair, append_assoc, length-append)

-- by which a figure and its blank fit
pub ruleset sizes = (short, length-append)
