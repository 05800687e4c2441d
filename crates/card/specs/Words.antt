-- The fourteen words of a card, each with the least and the most of its figure.
--   words         the fourteen, in the order in which a checked card holds their figures
--   place cs      the place of the name cs among the fourteen, if it is one of them
--   within w v    v is within the range of the word w
--   ranged k v    v is within the range of the word at place k
use Rattle.std.specs.Prelude.{ℕ, Bool, ◌&&◌, List, [], ◌∷◌, codes, Option, nat_le, slice_index_or, position}
use Rattle.std.specs.Str.{bytes_eq}
use Rattle.card.specs.declared.words.Word.{Word}

abbrev pub words : List Word
words =
    record { name = codes "AREA    "; least = 1; most = 5000 }
    ∷ record { name = codes "IMPV    "; least = 0; most = 1048576 }
    ∷ record { name = codes "CEPSC   "; least = 0; most = 400000 }
    ∷ record { name = codes "UZSN    "; least = 50000; most = 2000000 }
    ∷ record { name = codes "LZSN    "; least = 2000000; most = 15000000 }
    ∷ record { name = codes "INFILT  "; least = 1000; most = 500000 }
    ∷ record { name = codes "INTFW   "; least = 100; most = 1000 }
    ∷ record { name = codes "LZETP   "; least = 104858; most = 943718 }
    ∷ record { name = codes "DEEPFR  "; least = 0; most = 524288 }
    ∷ record { name = codes "AGWETP  "; least = 0; most = 209715 }
    ∷ record { name = codes "OVK     "; least = 1; most = 100000 }
    ∷ record { name = codes "IFWK    "; least = 1; most = 1048576 }
    ∷ record { name = codes "GWK     "; least = 1; most = 1048576 }
    ∷ record { name = codes "CHK     "; least = 1; most = 1048576 }
    ∷ []

unfoldable pub place : List ℕ → Option ℕ
place cs = position (λ (w : Word). bytes_eq cs w.name) words

abbrev pub within : Word → ℕ → Bool
within w v = nat_le w.least v && nat_le v w.most

-- a word that no card has, for places past the last
abbrev pub no_word : Word
no_word = record { name = []; least = 0; most = 0 }

unfoldable pub ranged : ℕ → ℕ → Bool
ranged k v = within (slice_index_or words k no_word) v
