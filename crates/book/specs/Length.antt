-- How long a book is: rules 1.15 and 2.2.
-- Assumes nothing.
use Rattle.std.specs.Prelude.{ℕ, ◌*◌, Bool, not, eqb}

-- the hours of a day (rule 1.15)
abbrev pub day_hours : ℕ
day_hours = 24

-- how many numbers the book of so many days has (rule 2.2)
abbrev pub book_length : ℕ → ℕ
book_length days = day_hours * days

-- how many numbers the longest book has, that of a winter with a leap day (rule 1.3)
abbrev pub most_readings : ℕ
most_readings = book_length 152

-- rule 4.4: n numbers are no book of so many days
abbrev pub wrong_length : ℕ → ℕ → Bool
wrong_length days n = not (eqb n (book_length days))
