-- The refusals of a settlement, in the order of rule 4.22.
-- Assumes nothing.
use Rattle.std.specs.Prelude.{ℕ, ◌*◌, Bool, List, [], ◌∷◌, ◌++◌, ltb, length}
use Rattle.book.specs.Refusals.{book_rows}
use Rattle.calendar.specs.WinterOf.{winter_of}
use Rattle.laws.specs.Answer.{Answer}
use Rattle.laws.specs.Table.{Row, row, first_of}
use Rattle.money.specs.Price.{bad_price}
use Rattle.notices.specs.Notices.{count_in}
use Rattle.notices.specs.Profiles.{figures_of}
use Rattle.notices.specs.declared.profiles.Profile.TheVariants.{Credit}
use Rattle.schedule.specs.ListCheck.{notices_table, bad_list}
use Rattle.credit.specs.Lines.{line_numbers}

-- rule 4.8: too little room, by how many numbers the list has
unfoldable pub short_output : ℕ → ℕ → Bool
short_output numbers room = ltb room (line_numbers * count_in numbers)

-- by winter and price, and by how many numbers the book, the list and the output have: the book's rows, and then these (rule 4.22)
abbrev pub own_rows : ℕ → ℕ → ℕ → List Row
own_rows p numbers room = row 3 0 (bad_price p) ∷ row 4 0 (bad_list numbers) ∷ row 6 0 (short_output numbers room) ∷ []

unfoldable pub call_rows : ℕ → ℕ → ℕ → ℕ → ℕ → List Row
call_rows w readings p numbers room = book_rows w readings ++ own_rows p numbers room

-- the whole table, and the first row of it that is broken; no reading is looked at (rule 4.22)
unfoldable pub settlement_table : ℕ → ℕ → ℕ → List ℕ → ℕ → List Row
settlement_table w readings p l room = call_rows w readings p (length l) room ++ notices_table (winter_of w) (figures_of Credit) l

unfoldable pub refusal_of : ℕ → ℕ → ℕ → List ℕ → ℕ → Answer
refusal_of w readings p l room = first_of (settlement_table w readings p l room)
