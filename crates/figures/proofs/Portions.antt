-- Differences of what grows along the sums of a list add up to the whole of it.
use Rattle.std.proofs.Common.{◌≡◌, ℕ, zero, suc, ◌+◌, ◌-◌, ◌*◌, ◌/◌, ◌<◌, ◌≤◌, List, map, length, get_or, sum, ap, ◌∙◌, subst, inl, inr, mul-le-mul_left, mul-zero, div-mul-le_self, mul-div_cancel, add-one, arith}
use native.Mathlib.Nat.{zero-div, div-zero}
use Rattle.std.specs.List.{range_with_len}
use Rattle.std.proofs.lemmas.Nat.{le-div}
use Rattle.std.proofs.lemmas.List.FromFn.{sum_by-map-range_with_len_more}
use Rattle.std.proofs.lemmas.List.{take_all}
use Rattle.std.proofs.lemmas.List.Sums.{sum_by_more, sum_by-take-le}
use Rattle.std.proofs.lemmas.Bool.{cases_lt}
use Rattle.figures.specs.Portions.{first, portion}

-- one weight more
pub first_more : (ws : List ℕ) (j : ℕ) → j < length ws → first ws (j + 1) ≡ first ws j + get_or ws j 0
first_more ws j h = sum_by_more (λ x. x) ws j 0 h

-- all weights
pub first_all : (ws : List ℕ) (j : ℕ) → length ws ≤ j → first ws j ≡ sum ws
first_all ws j h = ap sum (take_all j ws h)

-- some weights
pub first_le : (ws : List ℕ) (j : ℕ) → first ws j ≤ sum ws
first_le ws j = sum_by-take-le (λ x. x) ws j

-- the sums never fall
pub first_grows : (ws : List ℕ) (j : ℕ) → first ws j ≤ first ws (j + 1)
first_grows ws j =
    elim (cases_lt j (length ws)) [
      | inl l ↦ let m = first_more ws j l in omega arith
      | inr l ↦ let a = first_all ws j l in let b = first_all ws (j + 1) (omega arith) in omega arith
    ]

-- the sum of a function of the index, up to k
abbrev pub total : (ℕ → ℕ) → ℕ → ℕ
total f k = sum (map f (range_with_len 0 k))

pub total_more : (f : ℕ → ℕ) (k : ℕ) → total f (k + 1) ≡ total f k + f k
total_more f k = sum_by-map-range_with_len_more (λ x. x) f 0 k k (omega arith)

-- differences of what grows add up
pub differences_add : (f : ℕ → ℕ) → ((a b : ℕ) → a ≤ b → f a ≤ f b) → (ws : List ℕ) (k : ℕ)
    → total (λ j. f (first ws (j + 1)) - f (first ws j)) k + f 0 ≡ f (first ws k)
differences_add f grows ws zero = omega arith
differences_add f grows ws (suc k) =
    let g : ℕ → ℕ = λ j. f (first ws (j + 1)) - f (first ws j) in
    let all = differences_add f grows ws k in
    let more = total_more g k in
    let up = grows (first ws k) (first ws (k + 1)) (first_grows ws k) in
    let here : total g (k + 1) + f 0 ≡ f (first ws (k + 1)) = omega arith in
    subst (λ m. total g m + f 0 ≡ f (first ws m)) (add-one k) here

-- quotients grow with what is divided
pub div_grows : (a b n : ℕ) → a ≤ b → a / n ≤ b / n
div_grows a b zero h = omega (arith, div-zero a, div-zero b)
div_grows a b (suc n) h = let e = div-mul-le_self a (suc n) in le-div (a / suc n) b (suc n) (omega arith) (omega arith)

-- cumulative quotients add up, whatever the divisor and the weights
pub portions_add : (v n : ℕ) (ws : List ℕ) (k : ℕ) → total (portion v n ws) k ≡ v * first ws k / n
portions_add v n ws k =
    let all = differences_add (λ w. v * w / n) (λ a b h. div_grows (v * a) (v * b) n (mul-le-mul_left v h)) ws k in
    let none : v * 0 / n ≡ 0 = simp (mul-zero, zero-div) in
    omega arith

-- and to the whole amount where the weights add up to the divisor
pub portions_whole : (v n : ℕ) (ws : List ℕ) (k : ℕ) → 0 < n → sum ws ≡ n → length ws ≤ k → total (portion v n ws) k ≡ v
portions_whole v n ws k p e h =
    portions_add v n ws k ∙ ap (λ (w : ℕ). v * w / n) (first_all ws k h ∙ e) ∙ mul-div_cancel v p
