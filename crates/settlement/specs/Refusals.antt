-- The refusals of the energies, in their order: 1, 2, 4 and 6, and then the notices under profile 1.
-- Assumes nothing.
use Rattle.std.specs.Prelude.{ℕ, ◌*◌, Bool, List, [], ◌∷◌, ◌++◌, ltb, length}
use Rattle.book.specs.Refusals.{book_rows}
use Rattle.calendar.specs.WinterOf.{winter_of}
use Rattle.laws.specs.Answer.{Answer}
use Rattle.laws.specs.Table.{Row, row, first_of}
use Rattle.notices.specs.Notices.{count_in}
use Rattle.notices.specs.Profiles.{figures_of}
use Rattle.notices.specs.declared.profiles.Profile.TheVariants.{Credit}
use Rattle.schedule.specs.ListCheck.{notices_table, bad_list}
use Rattle.settlement.specs.Lines.{line_numbers}

-- too little room: fewer numbers than three for each notice, by how many numbers the list has
unfoldable pub short_output : ℕ → ℕ → Bool
short_output numbers room = ltb room (line_numbers * count_in numbers)

-- by the winter, and by how many numbers the book, the list and the output have: the book's rows, and then these
abbrev pub own_rows : ℕ → ℕ → List Row
own_rows numbers room = row 4 0 (bad_list numbers) ∷ row 6 0 (short_output numbers room) ∷ []

unfoldable pub call_rows : ℕ → ℕ → ℕ → ℕ → List Row
call_rows w readings numbers room = book_rows w readings ++ own_rows numbers room

-- the whole table, and the first row of it that is broken; no reading is looked at
unfoldable pub energies_table : ℕ → ℕ → List ℕ → ℕ → List Row
energies_table w readings l room = call_rows w readings (length l) room ++ notices_table (winter_of w) (figures_of Credit) l

unfoldable pub refusal_of : ℕ → ℕ → List ℕ → ℕ → Answer
refusal_of w readings l room = first_of (energies_table w readings l room)
