-- Cases worked out by hand, which the definitions have to give.
use Rattle.std.specs.Prelude.{◌≡◌, ℕ, List, [], ◌∷◌, replicate, slice_index_or}
use Rattle.figures.specs.Share.{share}
use Rattle.figures.specs.Power.{power}
use Rattle.figures.specs.Curve.{upper_part, ground_part}
use Rattle.figures.specs.Root.{Root}
use Rattle.storages.specs.Meaning.{recedes}
use Rattle.delay.specs.Hours.{padded, added, nearer}

-- two equal weights
abbrev pub halves : List ℕ
halves = padded (524288 ∷ 524288 ∷ [])

-- the hours of a delay of two equal weights, empty before, after an inflow
abbrev pub after : ℕ → List ℕ
after inflow = added inflow halves (replicate 24 0)

pub record WorkedCases : Type 0 where
  pub share_at_capacity : share 500 500 ≡ 250
  pub share_above_capacity : share 501 500 ≡ 250
  pub share_without_capacity : share 1 0 ≡ 0
  -- entry 8 of the table is the power of 8 sixteenths
  pub entry_eight : power 8 ≡ 92681
  pub upper_zone_half_full : upper_part 1000000 500000 ≡ 1019449
  pub lower_zone_a_third_full : ground_part 6000000 2000000 ≡ 38836
  pub root_of_eight : Root 8 4
  pub root_of_nine : Root 9 4
  pub half_of_three : recedes 524288 3 0 ≡ (1, 0, 0)
  pub five_in_two_hours : slice_index_or (after 5) 0 0 ≡ 2
  pub the_second_hour : slice_index_or (added 0 halves (nearer (after 5))) 0 0 ≡ 3
