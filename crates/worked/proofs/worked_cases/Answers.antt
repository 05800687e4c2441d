-- Each case is computed; the roots by the cubes on both sides.
use Rattle.std.proofs.Common.{refl, arith}
use Rattle.figures.specs.Share.{share}
use Rattle.figures.specs.Power.{power}
use Rattle.figures.specs.Curve.{upper_part, ground_part}
use Rattle.figures.proofs.Cubes.{greatest_cube}
use Rattle.delay.specs.Hours.{added}
use Rattle.worked.proofs.worked_cases.Goals as goal

pub returns : goal.returns
unfolding share power upper_part ground_part added
returns c = record {
  share_at_capacity = refl;
  share_above_capacity = refl;
  share_without_capacity = refl;
  entry_eight = refl;
  upper_zone_half_full = refl;
  lower_zone_a_third_full = refl;
  root_of_eight = greatest_cube 64 4 (omega arith) (omega arith);
  root_of_nine = greatest_cube 81 4 (omega arith) (omega arith);
  half_of_three = refl;
  five_in_two_hours = refl;
  the_second_hour = refl;
}
