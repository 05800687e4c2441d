-- Storages that are made of storages, as storages: what a leak and a chain mean, by what their parts mean.
--   leaking     a leak over a storage
--   chaining    one storage above another
--   leak_tap    how water is drawn from a leak
--   chain_tap   how water is drawn from a chain
use Rattle.std.specs.Prelude.{◌≡◌}
use Rattle.storages.specs.Chain.{both, lesser, Chained, ChainDrawn}
use Rattle.storages.specs.Leak.{Leaks}
use Rattle.storages.specs.declared.chain.Chain.{Chain}
use Rattle.storages.specs.declared.leak.Leak.{Leak}
use Rattle.storages.specs.declared.meaning.Storage as storage
use Rattle.storages.specs.declared.meaning.Tapped as tapped

abbrev pub leaking : {A : Type 0} → (G : storage.Ghosts A) → storage.Ghosts (Leak A G)
leaking G =
    record {
      holds = λ s. G.holds s.below;
      limit = λ s. G.limit s.below;
      steps = λ s i d o t. Leaks G s.loss.parts s.below i d o t.below × (t.loss ≡ s.loss);
    }

abbrev pub leak_tap : {A : Type 0} (G : storage.Ghosts A) → tapped.Ghosts A → tapped.Ghosts (Leak A G)
leak_tap G P = record { draws = λ s n t. P.draws s.below n t.below × (t.loss ≡ s.loss) }

abbrev pub chaining : {A B : Type 0} → (G : storage.Ghosts A) → (H : storage.Ghosts B) → storage.Ghosts (Chain A B G H)
chaining G H = record { holds = both G H; limit = lesser G H; steps = Chained G H }

abbrev pub chain_tap : {A B : Type 0} → (G : storage.Ghosts A) → (H : storage.Ghosts B) → tapped.Ghosts A → tapped.Ghosts B → tapped.Ghosts (Chain A B G H)
chain_tap G H P Q = record { draws = ChainDrawn G H P Q }
