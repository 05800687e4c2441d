-- What the hours of a delay hold in all.
use Rattle.std.proofs.Common.{◌≡◌, ℕ, zero, suc, ◌+◌, ◌-◌, ◌<◌, ◌≤◌, max, List, ◌++◌, length, get_or, replicate, sum, sym, refl, ap, ◌∙◌, subst, add-one, arith, lit<}
use Rattle.std.proofs.lemmas.List.FromFn.{fill_by_all}
use Rattle.std.proofs.lemmas.List.Sums.{sum_by-append}
use Rattle.figures.specs.Portions.{first, portion}
use Rattle.figures.proofs.Portions.{total, total_more, first_more, first_all, differences_add, portions_whole}
use Rattle.storages.specs.Meaning.{whole}
use Rattle.delay.specs.Hours.{longest, padded, added, drained}

-- sums of functions that agree
pub total_same : (f g : ℕ → ℕ) (k : ℕ) → ((j : ℕ) → j < k → f j ≡ g j) → total f k ≡ total g k
total_same f g zero e = refl
total_same f g (suc k) e =
    let before = total_same f g k (λ j h. e j (omega arith)) in
    let here = e k (omega arith) in
    let a = total_more f k in
    let b = total_more g k in
    let one : total f (k + 1) ≡ total g (k + 1) = omega arith in
    subst (λ m. total f m ≡ total g m) (add-one k) one

-- sums of sums
pub total_add : (f g : ℕ → ℕ) (k : ℕ) → total (λ j. f j + g j) k ≡ total f k + total g k
total_add f g zero = refl
total_add f g (suc k) =
    let before = total_add f g k in
    let a = total_more f k in
    let b = total_more g k in
    let c = total_more (λ j. f j + g j) k in
    let one : total (λ j. f j + g j) (k + 1) ≡ total f (k + 1) + total g (k + 1) = omega arith in
    subst (λ m. total (λ j. f j + g j) m ≡ total f m + total g m) (add-one k) one

-- a list's own entries
pub total_own : (hs : List ℕ) (k : ℕ) → length hs ≡ k → total (λ j. get_or hs j 0) k ≡ sum hs
total_own hs k h = ap sum (sym (fill_by_all (λ j. get_or hs j 0) hs k 0 h (λ j l. refl)))

-- zeros add nothing
pub sum_zeros : (k : ℕ) → sum (replicate k 0) ≡ 0
sum_zeros zero = refl
sum_zeros (suc k) = sum_zeros k

pub padded_total : (ws : List ℕ) → sum (padded ws) ≡ sum ws
padded_total ws =
    let a : sum (ws ++ replicate (longest - length ws) 0) ≡ sum ws + sum (replicate (longest - length ws) 0) = sum_by-append (λ x. x) ws (replicate (longest - length ws) 0) in
    let b = sum_zeros (longest - length ws) in
    omega arith

-- portions add up to what they are portions of, whatever the number of hours
pub gains_total : (v n : ℕ) (ws hs : List ℕ) (k : ℕ) → length ws ≤ k → length hs ≡ k → 0 < n → sum ws ≡ n
    → total (λ j. get_or hs j 0 + portion v n ws j) k ≡ sum hs + v
gains_total v n ws hs k m h p e =
    let both = total_add (λ j. get_or hs j 0) (portion v n ws) k in
    let own = total_own hs k h in
    let new = portions_whole v n ws k p e m in
    omega arith

-- an inflow is added whole
pub added_total : (v : ℕ) (ws hs : List ℕ) → length ws ≡ longest → length hs ≡ longest → sum ws ≡ whole → sum (added v ws hs) ≡ sum hs + v
unfolding added
added_total v ws hs m n e = gains_total v whole ws hs longest (omega arith) n (lit< tt) e

-- what an hour loses of a draw, by the sums of the hours up to it
loses : (n a h b : ℕ) → b ≡ a + h → h - (n - a) ≡ max n b - max n a
loses n a h b e = omega arith

ends : (t n e s : ℕ) → t + max n 0 ≡ max n e → e ≡ s → n ≤ s → t + n ≡ s
ends t n e s all end h = omega arith

-- a draw takes its amount, whatever the number of hours
pub loses_total : (n : ℕ) (hs : List ℕ) (k : ℕ) → length hs ≡ k → n ≤ sum hs → total (λ j. get_or hs j 0 - (n - first hs j)) k + n ≡ sum hs
loses_total n hs k m h =
    let f : ℕ → ℕ = λ j. get_or hs j 0 - (n - first hs j) in
    let g : ℕ → ℕ = λ j. max n (first hs (j + 1)) - max n (first hs j) in
    let same = total_same f g k (λ j l. loses n (first hs j) (get_or hs j 0) (first hs (j + 1)) (first_more hs j (omega arith))) in
    let all = differences_add (λ w. max n w) (λ a b l. omega arith) hs k in
    ends (total f k) n (first hs k) (sum hs) (ap (λ t. t + max n 0) same ∙ all) (first_all hs k (omega arith)) h

pub drained_total : (n : ℕ) (hs : List ℕ) → length hs ≡ longest → n ≤ sum hs → sum (drained n hs) + n ≡ sum hs
unfolding drained
drained_total n hs m h = loses_total n hs longest m h
