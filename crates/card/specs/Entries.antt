-- The records of a card: the place of a word and its figure, or the first rule that is broken.
--   given vs k              vs has a figure for the word at place k
--   word_with met at cs     the place of the word cs of a record that begins at an offset; met says which words came before
--   figure_under k at cs    the figure cs of that record, under the word at place k
--   entry_with met at n f   both, of the name n and the figure f
--   before card k i         a record before record i has the word at place k
--   entry_at card i         record i
use Rattle.std.specs.Prelude.{ℕ, zero, suc, ◌+◌, ◌*◌, Bool, false, cond, ◌||◌, List, Some, None, Ok, Err, Option, Result, ◌==◌, slice_index_or}
use Rattle.std.specs.Option.{is_some}
use Rattle.refusals.specs.declared.Refusal.{Refusal}
use Rattle.refusals.specs.declared.Refusal.TheVariants.{UnknownName, RepeatedName, NotANumber, OutOfRange}
use Rattle.card.specs.Figures.{figure_of}
use Rattle.card.specs.Words.{place, ranged}
use Rattle.card.specs.Fields.{name_at, figure_at}

-- a word by its place: it is unknown, has come before, or is new
abbrev pub new_word : ℕ → (ℕ → Bool) → Option ℕ → Result ℕ Refusal
new_word at met None = Err (UnknownName at)
new_word at met (Some k) = cond (met k) (Err (RepeatedName at)) (Ok k)

abbrev pub given : List (Option ℕ) → ℕ → Bool
given vs k = is_some (slice_index_or vs k None)

abbrev pub word_with : (ℕ → Bool) → ℕ → List ℕ → Result ℕ Refusal
word_with met at cs = new_word at met (place cs)

-- a figure under the word at place k: it is no number, is out of range, or is good
abbrev pub ranged_figure : ℕ → ℕ → Option ℕ → Result ℕ Refusal
ranged_figure at k None = Err (NotANumber at)
ranged_figure at k (Some v) = cond (ranged k v) (Ok v) (Err (OutOfRange at))

abbrev pub figure_under : ℕ → ℕ → List ℕ → Result ℕ Refusal
figure_under k at cs = ranged_figure (at + 8) k (figure_of cs)

-- the place of the word, and then its figure; the first refusal otherwise
abbrev pub pair : ℕ → Result ℕ Refusal → Result (ℕ × ℕ) Refusal
pair k (Err f) = Err f
pair k (Ok v) = Ok (k, v)

abbrev pub both : Result ℕ Refusal → (ℕ → Result ℕ Refusal) → Result (ℕ × ℕ) Refusal
both (Err f) F = Err f
both (Ok k) F = pair k (F k)

abbrev pub entry_with : (ℕ → Bool) → ℕ → List ℕ → List ℕ → Result (ℕ × ℕ) Refusal
entry_with met at name figure = both (word_with met at name) (λ k. figure_under k at figure)

-- the word of this name is the one at place k
abbrev pub is : Option ℕ → ℕ → Bool
is None k = false
is (Some j) k = j == k

abbrev pub before : List ℕ → ℕ → ℕ → Bool
before card k zero = false
before card k (suc i) = is (place (name_at card i)) k || before card k i

abbrev pub entry_at : List ℕ → ℕ → Result (ℕ × ℕ) Refusal
entry_at card i = entry_with (λ k. before card k i) (20 * i) (name_at card i) (figure_at card i)
