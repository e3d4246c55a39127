-- What each public call of the calendar answers on paper (rules 1.14, 1.16 and 4.3), and the number and values of each case of an answer.
-- Assumes nothing.
use Rattle.std.specs.Prelude.{ℕ, [], ◌∷◌, Option, Some, None, Result, Ok, Err}
use Rattle.laws.specs.Answer.{Answer, given, refusal, refuse, bit}
use Rattle.dates.specs.Answers.{error_number}
use Rattle.dates.specs.Winters.{no_winter}
use Rattle.dates.specs.declared.answers.Date.{Date}
use Rattle.dates.specs.declared.answers.DateError.{DateError}
use Rattle.calendar.specs.Clocks.{clocks_forward, clocks_back}
use Rattle.calendar.specs.Days.{wrong_winter, no_day, in_period}
use Rattle.calendar.specs.Easter.{no_easter_year, easter_month, easter_day}
use Rattle.calendar.specs.Excluded.{excluded}
use Rattle.calendar.specs.Weekdays.{weekday, weekend}
use Rattle.calendar.specs.WinterOf.{winter_of}
use Rattle.calendar.specs.declared.answers.Kind.{Kind}
use Rattle.calendar.specs.declared.answers.Winter.{Winter}

-- the paper's number and values for each case
abbrev pub facts_paper : Winter → Answer
facts_paper w = given (w.days ∷ w.december ∷ w.first ∷ w.easter ∷ [])

abbrev pub known_paper : Option Winter → Answer
known_paper (Some w) = facts_paper w
known_paper None = refusal 1

abbrev pub sunday_paper : Option Date → Answer
sunday_paper (Some date) = given (date.month ∷ date.day ∷ [])
sunday_paper None = refusal 1

abbrev pub kind_paper : Result Kind DateError → Answer
kind_paper (Ok k) = given (bit k.period ∷ bit k.weekend ∷ bit k.excluded ∷ [])
kind_paper (Err e) = refusal (error_number e)

abbrev pub change_paper : Option ℕ → Answer
change_paper (Some day) = given (day ∷ [])
change_paper None = refusal 1

-- what each call answers (rule 1.16)
unfoldable pub winter_facts : ℕ → Answer
winter_facts y = refuse (no_winter y) (refusal 1) (facts_paper (winter_of y))

unfoldable pub easter_sunday : ℕ → Answer
easter_sunday y = refuse (no_easter_year y) (refusal 1) (given (easter_month y ∷ easter_day y ∷ []))

-- of a book day: whether it is in the winter period, a weekend day, and excluded (rule 1.16)
unfoldable pub day_kind : Winter → ℕ → Answer
day_kind w d =
    refuse (wrong_winter w) (refusal 1)
    (refuse (no_day w d) (refusal 10) (given (bit (in_period w d) ∷ bit (weekend w d) ∷ bit (excluded w d) ∷ [])))

unfoldable pub weekday_of : ℕ → ℕ → Answer
weekday_of y d = refuse (no_winter y) (refusal 1) (refuse (no_day (winter_of y) d) (refusal 10) (given (weekday (winter_of y) d ∷ [])))

-- the Sundays on which the clocks change (rules 1.16 and 1.19)
unfoldable pub forward_day : Winter → Answer
forward_day w = refuse (wrong_winter w) (refusal 1) (given (clocks_forward w ∷ []))

unfoldable pub back_day : Winter → Answer
back_day w = refuse (wrong_winter w) (refusal 1) (given (clocks_back w ∷ []))
