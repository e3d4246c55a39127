-- What each public call on dates answers on paper, and the number and values of each case of an answer: 1 for a winter outside
-- 2010..2098, then 10 for a day or a date outside the book.
-- Assumes nothing.
use Rattle.std.specs.Prelude.{ℕ, [], ◌∷◌, Option, Some, None, Result, Ok, Err}
use Rattle.laws.specs.Answer.{Answer, given, refusal, refuse}
use Rattle.dates.specs.Dates.{month_lengths, november, date_from, book_day_from}
use Rattle.dates.specs.Winters.{no_winter, days}
use Rattle.dates.specs.declared.answers.Date.{Date}
use Rattle.dates.specs.declared.answers.DateError.TheVariants.{NoWinter, NoDay}
use Rattle.dates.specs.declared.answers.DateError.{DateError}

-- the number of each error
abbrev pub error_number : DateError → ℕ
error_number NoWinter = 1
error_number NoDay = 10

-- the paper's number and values for each case
abbrev pub days_paper : Option ℕ → Answer
days_paper (Some n) = given (n ∷ [])
days_paper None = refusal 1

abbrev pub number_paper : Result ℕ DateError → Answer
number_paper (Ok n) = given (n ∷ [])
number_paper (Err e) = refusal (error_number e)

abbrev pub date_paper : Result Date DateError → Answer
date_paper (Ok date) = given (date.month ∷ date.day ∷ [])
date_paper (Err e) = refusal (error_number e)

-- what each call answers (rule 1.16)
unfoldable pub winter_days : ℕ → Answer
winter_days y = refuse (no_winter y) (refusal 1) (given (days y ∷ []))

unfoldable pub date_of : ℕ → ℕ → Answer
date_of y d = refuse (no_winter y) (refusal 1) (date_from (month_lengths y) november d)

unfoldable pub book_day_of : ℕ → ℕ → ℕ → Answer
book_day_of y month day = refuse (no_winter y) (refusal 1) (book_day_from (month_lengths y) november 0 month day)
