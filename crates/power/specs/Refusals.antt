-- The refusals of a medium-power settlement, in the order of rule 4.31.
-- Assumes nothing.
use Rattle.std.specs.Prelude.{ℕ, ◌*◌, Bool, not, ◌||◌, List, [], ◌∷◌, ◌++◌, ltb, eqb, length}
use Rattle.book.specs.Refusals.{book_rows}
use Rattle.calendar.specs.WinterOf.{winter_of}
use Rattle.laws.specs.Answer.{Answer}
use Rattle.laws.specs.Rows.{rows_to}
use Rattle.laws.specs.Table.{Row, row, first_of}
use Rattle.notices.specs.Notices.{count_in}
use Rattle.notices.specs.Profiles.{figures_of}
use Rattle.notices.specs.declared.profiles.Profile.TheVariants.{PowerOption}
use Rattle.schedule.specs.ListCheck.{notices_table, bad_list}
use Rattle.power.specs.Lines.{power_line_numbers}
use Rattle.power.specs.Reduced.{reference_at}

-- rule 11.10: the sum of the reductions, the settled events and the credit
abbrev pub total_numbers : ℕ
total_numbers = 3

-- rules 4.8 and 9.9: too little room, for the lines of a list of so many numbers or for the totals
unfoldable pub short_room : ℕ → ℕ → ℕ → Bool
short_room numbers room totals = ltb room (power_line_numbers * count_in numbers) || ltb totals total_numbers

-- rule 4.29: not one reference for each notice
unfoldable pub wrong_references : ℕ → ℕ → Bool
wrong_references numbers given = not (eqb given (count_in numbers))

-- rules 4.30 and 11.1: a reference that is too large
abbrev pub largest_reference : ℕ
largest_reference = 10000000

abbrev pub high_reference : ℕ → Bool
high_reference reference = ltb largest_reference reference

-- by the winter, and by how many numbers the book, the list, the output, the totals and the references have: the book's rows, and then these
-- (rule 4.31)
abbrev pub power_own_rows : ℕ → ℕ → ℕ → ℕ → List Row
power_own_rows numbers room totals given =
    row 4 0 (bad_list numbers)
    ∷ row 6 0 (short_room numbers room totals)
    ∷ row 40 0 (wrong_references numbers given)
    ∷ []

unfoldable pub power_call_rows : ℕ → ℕ → ℕ → ℕ → ℕ → ℕ → List Row
power_call_rows w readings numbers room totals given = book_rows w readings ++ power_own_rows numbers room totals given

-- the references, one after another (rule 4.31)
unfoldable pub reference_rows : List ℕ → ℕ → List Row
reference_rows references k = row 41 k (high_reference (reference_at references k)) ∷ []

abbrev pub references_table : List ℕ → List Row
references_table references = rows_to (reference_rows references) (length references)

-- the whole table, and the first row of it that is broken; no reading is looked at (rule 4.31)
unfoldable pub power_table : ℕ → ℕ → List ℕ → List ℕ → ℕ → ℕ → List Row
power_table w readings l references room totals =
    power_call_rows w readings (length l) room totals (length references)
    ++ (references_table references ++ notices_table (winter_of w) (figures_of PowerOption) l)

unfoldable pub power_refusal : ℕ → ℕ → List ℕ → List ℕ → ℕ → ℕ → Answer
power_refusal w readings l references room totals = first_of (power_table w readings l references room totals)
