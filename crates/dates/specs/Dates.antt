-- The date of a book day, and the book day of a date, month by month from 1 November on: rule 1.2.
-- Assumes nothing.
use Rattle.std.specs.Prelude.{ℕ, ◌+◌, ◌-◌, ◌%◌, cond, ◌||◌, List, [], ◌∷◌, ltb, eqb}
use Rattle.laws.specs.Answer.{Answer, given, refusal}
use Rattle.dates.specs.Winters.{leap}

-- the lengths of the months of winter y: November, December, January, February, March (rule 1.5)
unfoldable pub month_lengths : ℕ → List ℕ
month_lengths y = 30 ∷ 31 ∷ 31 ∷ cond (leap (y + 1)) 29 28 ∷ 31 ∷ []

-- the first month of a book is November, and January comes after December
abbrev pub november : ℕ
november = 11

abbrev pub month_after : ℕ → ℕ
month_after month = month % 12 + 1

-- the date of the day that comes `left` days after the first of `month`; `lengths` are those of this month and the next ones (rule 1.6)
unfoldable pub date_from : List ℕ → ℕ → ℕ → Answer
date_from [] month left = refusal 10
date_from (n ∷ lengths) month left =
    cond (ltb left n) (given (month ∷ (left + 1) ∷ [])) (date_from lengths (month_after month) (left - n))

-- the book day of a day of the month that starts at book day `first` and has n days (rule 1.7)
unfoldable pub day_in_month : ℕ → ℕ → ℕ → Answer
day_in_month first n day = cond (ltb day 1 || ltb n day) (refusal 10) (given ((first + day - 1) ∷ []))

-- the book day of a date, looked for in the months from `now` on, which starts at book day `first` (rule 1.7)
unfoldable pub book_day_from : List ℕ → ℕ → ℕ → ℕ → ℕ → Answer
book_day_from [] now first month day = refusal 10
book_day_from (n ∷ lengths) now first month day =
    cond (eqb now month) (day_in_month first n day) (book_day_from lengths (month_after now) (first + n) month day)
