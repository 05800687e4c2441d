-- An hour of a tapped channel, and then a draw from it.
use Rattle.std.specs.Prelude.{◌≡◌, ℕ, min}
use Rattle.storages.specs.Meaning.{Out}
use Rattle.storages.specs.declared.meaning.Storage as storage
use Rattle.storages.specs.declared.meaning.Tapped as tapped

-- the channel s steps with the inflow and no demand to mid, and then as much of n is drawn as mid covers, which leaves t;
-- the answer is what flowed out, what went deep and what was drawn
pub record Pumped {C : Type 0} (G : storage.Ghosts C) (P : tapped.Ghosts C) (s : C) (i n : ℕ) (o : Out) (t : C) : Type 0 where
  pub mid : C
  pub out : Out
  pub steps : G.steps s i 0 out mid
  pub draws : P.draws mid (min n (G.holds mid)) t
  pub answer : o ≡ (out.0, out.2, min n (G.holds mid))
