-- What a feed record says: sixteen bytes, read as an event or refused.
--   word i bs     the four bytes from byte i on, the least first
--   part i n bs   the n bytes from byte i on
--   blank at bs   refuses the first byte that is not zero; the first of bs stands at `at`
--   record_of e   the record of an event, byte by byte
--   reading bs    the event of a record, or the first rule that it breaks
use Rattle.std.specs.Prelude.{ℕ, ◌+◌, ◌*◌, ◌/◌, ◌%◌, cond, List, [], ◌∷◌, ◌++◌, length, take, drop, replicate, Ok, Err, Result, ◌==◌, slice_index}
use Rattle.std.specs.Result.{result_and}
use Rattle.refusals.specs.declared.Refusal.{Refusal}
use Rattle.refusals.specs.declared.Refusal.TheVariants.{RecordLength, UnknownLetter, NotZero}
use Rattle.feed.specs.declared.Event.{Event}
use Rattle.feed.specs.declared.Event.TheVariants.{Rain, Turn, Closing}

abbrev pub word : ℕ → List ℕ → ℕ
word i bs = slice_index bs i + slice_index bs (i + 1) * 256 + slice_index bs (i + 2) * 65536 + slice_index bs (i + 3) * 16777216

abbrev pub part : ℕ → ℕ → List ℕ → List ℕ
part i n bs = take n (drop i bs)

abbrev pub blank : ℕ → List ℕ → Result (Unit {0}) Refusal
blank at [] = Ok tt
blank at (b ∷ bs) = cond (b == 0) (blank (at + 1) bs) (Err (NotZero at))

-- rain: the segment, then rain and demand between bytes that are zero
abbrev pub rain_of : List ℕ → Result Event Refusal
rain_of bs = result_and (blank 2 (part 2 2 bs)) (result_and (blank 12 (part 12 4 bs)) (Ok (Rain (slice_index bs 1) (word 4 bs) (word 8 bs))))

-- a turn or a closing: nothing but zeros after the letter
abbrev pub bare_of : Event → List ℕ → Result Event Refusal
bare_of e bs = result_and (blank 1 (drop 1 bs)) (Ok e)

-- sixteen bytes by their letter: R is 82, T is 84, C is 67
abbrev pub lettered : List ℕ → Result Event Refusal
lettered bs = cond (slice_index bs 0 == 82) (rain_of bs) (cond (slice_index bs 0 == 84) (bare_of Turn bs) (cond (slice_index bs 0 == 67) (bare_of Closing bs) (Err UnknownLetter)))

abbrev pub reading : List ℕ → Result Event Refusal
reading bs = cond (length bs == 16) (lettered bs) (Err RecordLength)

-- an amount as four bytes, the least first
abbrev pub four_bytes : ℕ → List ℕ
four_bytes n = n % 256 ∷ n / 256 % 256 ∷ n / 65536 % 256 ∷ n / 16777216 ∷ []

abbrev pub record_of : Event → List ℕ
record_of (Rain segment depth demand) = 82 ∷ segment ∷ 0 ∷ 0 ∷ (four_bytes depth ++ (four_bytes demand ++ replicate 4 0))
record_of Turn = 84 ∷ replicate 15 0
record_of Closing = 67 ∷ replicate 15 0
