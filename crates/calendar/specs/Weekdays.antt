-- Weekdays of the book's days, counted from Sunday, 0, to Saturday, 6.
-- Assumes nothing.
use Rattle.std.specs.Prelude.{ℕ, ◌+◌, ◌-◌, ◌/◌, ◌%◌, Bool, ◌||◌, ◌≡◌, refl, eqb}
use Rattle.calendar.specs.declared.answers.Winter.{Winter}

-- the weekday of 1 November of year y: a common year moves it on by one, a leap year by two (Gregorian) (rule 1.8)
unfoldable pub first_weekday : ℕ → ℕ
first_weekday y = (y + y / 4 - y / 100 + y / 400 + 3) % 7

-- rule 1.8: where the count of weekdays starts
pub anchor : first_weekday 2026 ≡ 0
unfolding first_weekday
anchor = refl

-- the weekday of day d of a winter's book (rule 1.8)
unfoldable pub weekday : Winter → ℕ → ℕ
weekday w d = (w.first + d) % 7

-- a Saturday or a Sunday (rule 1.9)
unfoldable pub weekend : Winter → ℕ → Bool
weekend w d = eqb (weekday w d) 0 || eqb (weekday w d) 6
