-- A winter's own facts: how many days its book has, where December starts in it, the weekday of its day 0, and Easter Sunday as a day of it.
-- All that is asked of a day goes by these.
-- Assumes nothing.
use Rattle.std.specs.Prelude.{ℕ, get_or}
use Rattle.dates.specs.Answers.{book_day_of}
use Rattle.dates.specs.Winters.{days}
use Rattle.calendar.specs.Easter.{easter_in_book}
use Rattle.calendar.specs.Weekdays.{first_weekday}
use Rattle.calendar.specs.declared.answers.Winter.{Winter}

-- rule 1.17: the four facts
unfoldable pub winter_of : ℕ → Winter
winter_of y = record { days = days y; december = 30; first = first_weekday y; easter = easter_in_book y }

-- the first day of a month of winter y, 0 where its book has no such month (rule 1.5)
abbrev pub first_of : ℕ → ℕ → ℕ
first_of y month = get_or (book_day_of y month 1).values 0 0
