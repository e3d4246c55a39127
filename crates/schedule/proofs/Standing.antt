-- What the crates above may count on of an accepted list, said of its notices by their index and without the walk of the check: by figures
-- that have bands.
-- Assumes nothing.
use Prim.Native.Nat.{ℕ, ◌-◌, ◌≤◌, ◌<◌}
use mathlib.Core.Bool.{false}
use mathlib.Core.List.{List}
use mathlib.Core.Logic.{◌⊎◌}
use mathlib.Core.Path.{◌≡◌}
use Rattle.calendar.specs.WinterOf.{winter_of}
use Rattle.calendar.specs.Excluded.{excluded}
use Rattle.dates.specs.Winters.{days}
use Rattle.notices.proofs.HourLaws.{InBand}
use Rattle.notices.specs.Notices.{most_notices, count_of, notice_at, hours_to}
use Rattle.notices.specs.Sane.{Banded}
use Rattle.notices.specs.declared.notices.Notice.{Notice}
use Rattle.notices.specs.declared.profiles.Figures.{Figures}

-- a notice of an accepted list, by itself
pub record Stands (w : ℕ) (f : Figures) (n : Notice) : Type 0 where
  pub from_december : 30 ≤ n.day
  pub in_book : n.day < days w
  pub open_day : excluded (winter_of w) n.day ≡ false
  pub some_hour : n.start < n.end
  pub in_band : InBand f n
  pub short : n.end - n.start ≤ f.longest

-- two notices of one day: the first inside the morning band, the second in the evening
pub record OneDay (f : Figures) (m n : Notice) : Type 0 where
  pub same_day : m.day ≡ n.day
  pub morning : m.end ≤ f.morning.end
  pub evening : f.evening.start ≤ n.start

-- two notices of an accepted list, the second later in it: so at most one event stands on a day and band
abbrev pub Later : Figures → Notice → Notice → Type 0
Later f m n = (m.day < n.day) ⊎ OneDay f m n

pub record Standing (w : ℕ) (f : Figures) (l : List ℕ) : Type 0 where
  pub bands : Banded f
  pub few : count_of l ≤ most_notices
  pub each : (k : ℕ) → k < count_of l → Stands w f (notice_at l k)
  pub later : (i j : ℕ) → i < j → j < count_of l → Later f (notice_at l i) (notice_at l j)
  pub hours : hours_to l (count_of l) ≤ f.hours
