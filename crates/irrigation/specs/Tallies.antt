-- What a granted call adds to the clerk's tally: the same as to the tally of the law.
use Rattle.std.specs.Prelude.{◌<◌, ◌^◌, [], ◌∷◌, Ok}
use Rattle.basin.specs.Law.{added, renewed, by_rain, by_turn, by_draw, by_pour, by_closing}
use Rattle.basin.specs.declared.book.Sums.{Sums}
use Rattle.irrigation.specs.declared.tally.Granted.{Granted}
use Rattle.irrigation.specs.declared.tally.Granted.TheVariants.{Rain, Turn, Draw, Pour}

abbrev pub added_by : Granted → Sums → Sums
added_by (Rain area depth runoff evaporated deep) s = added (area ∷ []) (by_rain 0 depth 0 (Ok (runoff, evaporated, deep))) s
added_by (Turn streamflow deep) s = added [] (by_turn streamflow deep) s
added_by (Draw n) s = added [] (by_draw n (Ok (record { amount = n }))) s
added_by (Pour n) s = added [] (by_pour n (Ok tt)) s

abbrev pub closed_by : Sums → Sums
closed_by s = renewed [] (by_closing (record { sums = s; held = 0 })) s

-- every sum is a number of 64 bits
pub record Fits (s : Sums) : Type 0 where
  pub opening : s.opening < 2 ^ 64
  pub rain : s.rain < 2 ^ 64
  pub streamflow : s.streamflow < 2 ^ 64
  pub evaporated : s.evaporated < 2 ^ 64
  pub deep : s.deep < 2 ^ 64
  pub drawn : s.drawn < 2 ^ 64
  pub poured : s.poured < 2 ^ 64
