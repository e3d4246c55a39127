-- Where the values of read lines stand in the book, and which lines are misplaced: rules 4.18 and 8.8.
-- Assumes nothing.
use Rattle.std.specs.Prelude.{ℕ, ◌+◌, Bool, cond, ◌||◌, List, [], ◌∷◌, ltb, leb, length, Option, Some, None, Result, Ok}
use Rattle.std.proofs.lemmas.List.Edits.{sets}
use Rattle.book.specs.Length.{day_hours}
pub use Rattle.book.specs.Places.{hour_place}
use Rattle.dates.specs.Winters.{no_winter, days}
use Rattle.numerals.specs.Fields.{after_step}
use Rattle.numerals.specs.Rows.{Read}
use Rattle.form.specs.Document.{ReadLine, Document}
use Rattle.form.specs.Lines.{after_lines, breaks, read_line_at, lines_end, lines_said}
use Rattle.form.specs.declared.lines.BrokenLine.{BrokenLine}
use Rattle.form.specs.declared.lines.Placed.{Placed}
use Rattle.form.specs.declared.places.Hours.{Hours}

-- the days of a winter's book; a text of no winter is refused with 1 before 31 is looked at, so that any number would do for it
unfoldable pub book_days : ℕ → ℕ
book_days winter = cond (no_winter winter) 0 (days winter)

-- the first place of a read line, and the one after its last
abbrev pub start_of : ReadLine → ℕ
start_of x = hour_place x.day x.hour

abbrev pub end_of : ReadLine → ℕ
end_of x = start_of x + length x.values

-- a line of so many values from an hour of a day on, where the book has so many days and the line before ends before place `end` (rule 8.8)
unfoldable pub misplaced_by : ℕ → ℕ → ℕ → ℕ → ℕ → Bool
misplaced_by days end day hour count = leb days day || ltb day_hours (hour + count) || ltb (hour_place day hour) end

abbrev pub misplaced : ℕ → ℕ → ReadLine → Bool
misplaced days end x = misplaced_by days end x.day x.hour (length x.values)

-- the first of some read lines that is misplaced, if one is: the next of them is the kth line (rule 4.18)
unfoldable pub misplaced_in : ℕ → List ReadLine → ℕ → ℕ → Option ℕ
misplaced_in days [] k end = None
misplaced_in days (x ∷ xs) k end = cond (misplaced days end x) (Some k) (misplaced_in days xs (k + 1) (end_of x))

-- the first misplaced line of a text: four lines stand before the read lines beside the event lines
abbrev pub misplaced_line : ℕ → ℕ → List ReadLine → Option ℕ
misplaced_line days events reads = misplaced_in days reads (events + 4 + 1) 0

abbrev pub misplaced_line_in : ℕ → Document → Option ℕ
misplaced_line_in days d = misplaced_line days (length d.events) d.reads

-- rules 8.5 and 8.9: the book once a read line is put into it, and once some are
abbrev pub put_read : ReadLine → List ℕ → List ℕ
put_read x book = sets book (start_of x) x.values

unfoldable pub book_in : List ReadLine → List ℕ → List ℕ
book_in [] book = book
book_in (x ∷ xs) book = book_in xs (put_read x book)

-- the hours of a read line that was read, and the position after it
abbrev pub hours : ℕ → ℕ → ℕ → ℕ → Hours
hours day hour count p = record { day = day; hour = hour; count = count; next = p }

abbrev pub hours_told : Read ReadLine → Option Hours
hours_told r = after_step None r.end (λ p. Some (hours r.said.day r.said.hour (length r.said.values) p))

-- where some read lines end, and the first of them that is misplaced
abbrev pub placed : ℕ → Option ℕ → Placed
placed p line = record { next = p; misplaced = line }

-- m read lines, of which the first is line `line` of the text, with the first of them that is misplaced
unfoldable pub placed_lines : ℕ → ℕ → List ℕ → ℕ → ℕ → Result Placed BrokenLine
placed_lines days m s at line =
    after_lines breaks (lines_end (read_line_at s) m at line) (λ q. Ok (placed q (misplaced_in days (lines_said (read_line_at s) m at) line 0)))
