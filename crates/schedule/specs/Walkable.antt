-- What the private functions ask.
-- Assumes nothing.
use Rattle.std.specs.Prelude.{ℕ, ◌≤◌, List}
use Rattle.notices.specs.Notices.{most_notices, count_of, hours_of}
use Rattle.notices.specs.Sane.{most_hours}
use Rattle.notices.specs.declared.notices.Notice.{Notice}
use Rattle.schedule.specs.declared.rules.Sofar.{Sofar}

-- the first notices of a list can be walked over: so many stand in it, and no list has more
pub record Walkable (l : List ℕ) (count : ℕ) : Type 0 where
  pub few : count ≤ most_notices
  pub there : count ≤ count_of l

-- the hours so far and those of a notice are small, so that their sum is
pub record HoursFit (so : Sofar) (n : Notice) : Type 0 where
  pub sofar : so.hours ≤ most_hours
  pub notice : hours_of n ≤ 24
