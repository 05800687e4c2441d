-- Basins of the same parts are the same.
use mathlib.Core.HLevel.{is_prop→PathP}
use Rattle.std.specs.Prelude.{◌≡◌, ◌+◌, ◌≤◌}
use Rattle.std.specs.Coded.{le_prop}
use Rattle.std.proofs.Math.Nat.{ℕ_set}
use Rattle.storages.specs.Meaning.{top}
use Rattle.storages.specs.declared.meaning.Storage as storage
use Rattle.banks.specs.Rows.{volume}
use Rattle.banks.specs.declared.meaning.Bank as bank
use Rattle.basin.specs.Law.{Even, page}
use Rattle.basin.specs.declared.basin.Basin.{Basin}

pub same_basin : {B C : Type 0} (G : bank.Ghosts B) (S : storage.Ghosts C) (b c : Basin B C G S) → b.bank ≡ c.bank → b.channel ≡ c.channel → b.pocket ≡ c.pocket → b.sums ≡ c.sums → b ≡ c
same_basin G S b c e f g h = λ i. record {
  bank = e i;
  channel = f i;
  pocket = g i;
  sums = h i;
  room = is_prop→PathP (λ j. volume (G.tracts (e j)) + g j + S.holds (f j) ≤ S.limit (f j)) (λ j. le_prop) b.room c.room i;
  even = is_prop→PathP (λ j. Even (h j) (volume (G.tracts (e j)) + g j + S.holds (f j))) (λ j. ℕ_set _ _) b.even c.even i;
  opening = is_prop→PathP (λ j. (h j).opening ≤ top) (λ j. le_prop) b.opening c.opening i;
  fits = is_prop→PathP (λ j. (h j).rain + (h j).poured ≤ page) (λ j. le_prop) b.fits c.fits i;
}
