-- The fields of a card: where they stand, and what they say.
--   Part                  a name or a figure: its offset and its bytes
--   part f                what a field of the program is
--   offset p              where a part begins
--   name_at card i        the bytes of record i's name
--   figure_at card i      the bytes of record i's figure
--   told p                what a part says: the place of its name among the words, or its figure
use Rattle.std.specs.Prelude.{ℕ, ◌+◌, ◌*◌, ◌<◌, List, take, drop, Result}
use Rattle.std.specs.Option.{ok_or}
use Rattle.refusals.specs.declared.Refusal.{Refusal}
use Rattle.refusals.specs.declared.Refusal.TheVariants.{UnknownName, NotANumber}
use Rattle.card.specs.declared.fields.Field.{Field}
use Rattle.card.specs.declared.fields.Field.TheVariants.{Name, Figure}
use Rattle.card.specs.Figures.{figure_of}
use Rattle.card.specs.Words.{place}

pub data Part : Type 0 where
  a_name : ℕ → List ℕ → Part
  a_figure : ℕ → List ℕ → Part

abbrev pub part : Field → Part
part (Name at p) = a_name at p.now
part (Figure at p) = a_figure at p.now

abbrev pub offset : Part → ℕ
offset (a_name at cs) = at
offset (a_figure at cs) = at

abbrev pub name_at : List ℕ → ℕ → List ℕ
name_at card i = take 8 (drop (20 * i) card)

abbrev pub figure_at : List ℕ → ℕ → List ℕ
figure_at card i = take 12 (drop (20 * i + 8) card)

abbrev pub told : Part → Result ℕ Refusal
told (a_name at cs) = ok_or (place cs) (UnknownName at)
told (a_figure at cs) = ok_or (figure_of cs) (NotANumber at)

-- a name's place is one of the fourteen
abbrev pub Placed : Part → ℕ → Type 0
Placed (a_name at cs) n = n < 14
Placed (a_figure at cs) n = Unit {0}
