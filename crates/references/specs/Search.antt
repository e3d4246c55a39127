-- How the code walks over days that carry an event, and what its private functions ask of a day. To believe the public contract it need
-- not be read.
-- Assumes nothing.
use Rattle.std.specs.Prelude.{ℕ, zero, suc, ◌+◌, ◌<◌, Bool, false, not, cond, ◌&&◌, ◌||◌, ◌≡◌, leb, ltb, eqb, Option, Some, None}
use Rattle.std.specs.Option.{option_eq}
use Rattle.std.specs.Bool.{beq}
use Rattle.calendar.specs.Clocks.{clocks_forward, passed_hour}
use Rattle.calendar.specs.Days.{wrong_winter, in_period, march_eighth}
use Rattle.calendar.specs.Excluded.{excluded}
use Rattle.calendar.specs.Weekdays.{weekend}
use Rattle.calendar.specs.declared.answers.Kind.{Kind}
use Rattle.calendar.specs.declared.answers.Winter.{Winter}

-- where a search backwards from day d goes on: past the days right before it that carry an event
unfoldable pub past_events : (ℕ → Bool) → ℕ → ℕ
past_events free zero = 0
past_events free (suc d) = cond (free d) (suc d) (past_events free d)

-- whether no earlier day can lack a warm-up hour of an event: its start does not name the hour that the clocks pass over, or its day is not
-- after 8 March
unfoldable pub none_lacks : Winter → ℕ → ℕ → Bool
none_lacks w day s = ltb s (passed_hour + 3) || ltb (passed_hour + 5) s || leb day (march_eighth w.days)

-- the day that lacks one, if any does
unfoldable pub lacking_day : Winter → ℕ → ℕ → Option ℕ
lacking_day w day s = cond (none_lacks w day s) None (Some (clocks_forward w))

-- whether a day that carries no event serves an event on a weekend day or on a weekday, where one day may lack a warm-up hour
unfoldable pub free_serves : Winter → Bool → Option ℕ → ℕ → Bool
free_serves w onWeekend lacking d = beq (weekend w d) onWeekend && not (excluded w d) && not (option_eq eqb lacking (Some d))

-- what the private functions ask of a day: it is a day of the winter's book
pub record BookDay (w : Winter) (d : ℕ) : Type 0 where
  pub right : wrong_winter w ≡ false
  pub there : d < w.days

-- and the kind is that day's
pub record OnDay (w : Winter) (d : ℕ) (kind : Kind) : Type 0 where
  pub day : BookDay w d
  pub period : kind.period ≡ in_period w d
  pub week : kind.weekend ≡ weekend w d
