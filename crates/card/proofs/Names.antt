-- What a place says of the name.
use Rattle.std.proofs.Common.{◌≡◌, ℕ, ◌<◌, List, get_or, Some}
use Rattle.std.specs.Str.{bytes_eq}
use Rattle.std.proofs.lemmas.List.Quantifiers.{position-Some}
use Rattle.std.proofs.lemmas.Slice.Eq.{bytes_eq-Decides}
use Rattle.card.specs.declared.words.Word.{Word}
use Rattle.card.specs.Words.{words, place, no_word}

-- a name that has a place is one of the fourteen
pub place_below : (cs : List ℕ) (k : ℕ) → place cs ≡ Some k → k < 14
unfolding place
place_below cs k e = (position-Some (λ (w : Word). bytes_eq cs w.name) words k no_word e).0

-- and it is the name of the word there
pub place_name : (cs : List ℕ) (k : ℕ) → place cs ≡ Some k → cs ≡ (get_or words k no_word).name
unfolding place
place_name cs k e =
    let d = position-Some (λ (w : Word). bytes_eq cs w.name) words k no_word e in
    (bytes_eq-Decides cs (get_or words k no_word).name).0 d.1
