-- The figure of a record: blanks, and then at least one decimal digit.
--   unblanked cs       cs without the blanks before it
--   number_from n cs   the number that n and then the digits cs write, if cs is digits alone
--   some_digits cs     the number that the digits cs write, if they are at least one, and digits alone
--   figure_of cs       the number of a figure, if it is one
use Rattle.std.specs.Prelude.{ℕ, ◌+◌, ◌-◌, ◌*◌, cond, List, [], ◌∷◌, length, Some, None, Option, ◌==◌}
use Rattle.std.specs.Char.{is_ascii_digit}

abbrev pub unblanked : List ℕ → List ℕ
unblanked [] = []
unblanked (c ∷ cs) = cond (c == 32) (unblanked cs) (c ∷ cs)

abbrev pub number_from : ℕ → List ℕ → Option ℕ
number_from n [] = Some n
number_from n (c ∷ cs) = cond (is_ascii_digit c) (number_from (10 * n + (c - 48)) cs) None

abbrev pub some_digits : List ℕ → Option ℕ
some_digits cs = cond (length cs == 0) None (number_from 0 cs)

unfoldable pub figure_of : List ℕ → Option ℕ
figure_of cs = some_digits (unblanked cs)
