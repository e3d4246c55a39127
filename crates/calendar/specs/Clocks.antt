-- The two Sundays of a winter on which the clocks change, and the hours that a day has for it.
-- Assumes nothing.
use Rattle.std.specs.Prelude.{ℕ, zero, suc, ◌+◌, ◌-◌, ◌%◌, Bool, not, ◌&&◌, leb, eqb}
use Rattle.laws.specs.Answer.{bit}
use Rattle.calendar.specs.Days.{march_first}
use Rattle.calendar.specs.Weekdays.{weekday}
use Rattle.calendar.specs.declared.answers.Winter.{Winter}

-- the first Sunday from day d on (rule 1.8)
unfoldable pub sunday_from : Winter → ℕ → ℕ
sunday_from w d = d + (7 - weekday w d) % 7

-- rule 1.19: the clocks go back on the first Sunday of November, which begins with day 0
unfoldable pub clocks_back : Winter → ℕ
clocks_back w = sunday_from w 0

-- rule 1.19: and forward on the second Sunday of March, a week after the first
unfoldable pub clocks_forward : Winter → ℕ
clocks_forward w = sunday_from w (march_first w.days) + 7

-- rule 1.20: the hour that the clocks pass over on that Sunday
abbrev pub passed_hour : ℕ
passed_hour = 2

-- rule 1.20: whether day d has hour h
unfoldable pub has_hour : Winter → ℕ → ℕ → Bool
has_hour w d h = not (eqb d (clocks_forward w) && eqb h passed_hour)

-- rule 1.21: how many hours elapse on day d from where hour h begins to where hour s does: those that the day has from h on and before s
unfoldable pub elapsed : Winter → ℕ → ℕ → ℕ → ℕ
elapsed w d h zero = 0
elapsed w d h (suc s) = elapsed w d h s + bit (leb h s && has_hour w d s)
