-- The bytes of a line, and what a buffer holds once the line is written.
--   entered ns               each figure after a blank, and a newline at the end
--   letter l                 the letter of a line
--   entries l                its figures, in their order
--   text l                   its bytes
--   buffer_limits size       a buffer of this size holds at least 192 bytes
--   Printed line old n new   a line of n bytes stands at the front of a buffer, and the rest is as it was
use Rattle.std.specs.Prelude.{◌≡◌, ℕ, ◌≤◌, List, [], ◌∷◌, ◌++◌, length, drop, decimal}
use Rattle.refusals.specs.Limits.{Limit, limit}
use Rattle.refusals.specs.declared.Refusal.TheVariants.{ShortBuffer}
use Rattle.lines.specs.declared.Line.{Line}
use Rattle.lines.specs.declared.Line.TheVariants.{Rain, Turn, Closing, Refused}

abbrev pub entered : List ℕ → List ℕ
entered [] = 10 ∷ []
entered (n ∷ ns) = 32 ∷ (decimal n ++ entered ns)

-- R, T, C and X
abbrev pub letter : Line → ℕ
letter (Rain segment runoff evaporated deep) = 82
letter (Turn streamflow deep) = 84
letter (Closing book) = 67
letter (Refused notice) = 88

abbrev pub entries : Line → List ℕ
entries (Rain segment runoff evaporated deep) = segment ∷ runoff ∷ evaporated ∷ deep ∷ []
entries (Turn streamflow deep) = streamflow ∷ deep ∷ []
entries (Closing book) = book.sums.opening ∷ book.sums.rain ∷ book.sums.streamflow ∷ book.sums.evaporated ∷ book.sums.deep ∷ book.sums.drawn ∷ book.sums.poured ∷ book.held ∷ []
entries (Refused notice) = notice.number ∷ notice.layer ∷ notice.place ∷ []

abbrev pub text : Line → List ℕ
text l = letter l ∷ entered (entries l)

abbrev pub buffer_limits : ℕ → List Limit
buffer_limits size = limit 192 size ShortBuffer ∷ []

pub record Printed (line old : List ℕ) (n : ℕ) (new : List ℕ) : Type 0 where
  pub size : n ≡ length line
  pub fits : n ≤ 192
  pub bytes : new ≡ line ++ drop n old
