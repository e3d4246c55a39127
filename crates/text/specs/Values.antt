-- The values of a text: winter, price and the first misplaced line from its shape, and its book. Of a text that breaks the form they count
-- for nothing, since 30 is given before they are looked at.
-- Assumes nothing.
use Rattle.std.specs.Prelude.{ℕ, Bool, true, false, List, replicate, Option, None, Result, Ok, Err}
use Rattle.book.specs.Length.{book_length}
use Rattle.book.specs.Values.{missing_mark}
use Rattle.dates.specs.Winters.{days}
use Rattle.form.specs.Form.{form_of, reads_said}
use Rattle.form.specs.Places.{book_in}
use Rattle.form.specs.declared.lines.BrokenLine.{BrokenLine}
use Rattle.form.specs.declared.whole.Shape.{Shape}

-- whether the form is broken, and the line that breaks it
abbrev pub is_broken : Result Shape BrokenLine → Bool
is_broken (Err b) = true
is_broken (Ok f) = false

abbrev pub broken_line : Result Shape BrokenLine → ℕ
broken_line (Err b) = b.line
broken_line (Ok f) = 0

abbrev pub shape_in : Result Shape BrokenLine → Shape
shape_in (Ok f) = f
shape_in (Err b) = record { winter = 0; price = 0; events = 0; misplaced = None }

abbrev pub winter_said : List ℕ → ℕ
winter_said s = (shape_in (form_of s)).winter

abbrev pub price_said : List ℕ → ℕ
price_said s = (shape_in (form_of s)).price

-- the first read line that is misplaced
abbrev pub misplaced_said : List ℕ → Option ℕ
misplaced_said s = (shape_in (form_of s)).misplaced

-- rule 8.9: the book of a winter before a reading is put into it
abbrev pub no_readings : ℕ → List ℕ
no_readings w = replicate (book_length (days w)) missing_mark

-- and with the readings of the text
abbrev pub book_said : List ℕ → List ℕ
book_said s = book_in (reads_said s) (no_readings (winter_said s))
