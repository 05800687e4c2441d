-- The runs, call by call.
use Rattle.worked.proofs.Days.{the_day_lem}
use Rattle.worked.proofs.Years.{the_year_lem}
use Rattle.worked.proofs.worked_runs.Goals as goal

pub returns : goal.returns
returns c = record { day = the_day_lem; year = the_year_lem }
