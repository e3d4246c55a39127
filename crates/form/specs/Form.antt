-- The form of a whole text, line by line, and what a text says up to what breaks the form: rules 8.3, 8.6 and 8.7.
-- Assumes nothing.
use Rattle.std.specs.Prelude.{ℕ, ◌+◌, cond, eqb, length, Result, Ok, Err}
use mathlib.Core.List.{List, [], flatten}
use Rattle.numerals.specs.Fields.{after_number, keyed_at}
use Rattle.numerals.specs.Words.{bytes_of}
use Rattle.form.specs.Document.{ReadLine}
use Rattle.form.specs.Lines.{after_lines, breaks, event_line_at, read_line_at, lines_end, lines_said}
use Rattle.form.specs.Places.{book_days, misplaced_line}
use Rattle.form.specs.declared.lines.BrokenLine.{BrokenLine}
use Rattle.form.specs.declared.whole.Shape.{Shape}
use Rattle.form.specs.declared.whole.Top.{Top}

-- winter, price, the number of event lines and the position after the three lines that say them
abbrev pub top : ℕ → ℕ → ℕ → ℕ → Top
top winter price events p = record { winter = winter; price = price; events = events; next = p }

-- the first three lines (rule 8.3)
unfoldable pub top_of : List ℕ → Result Top BrokenLine
top_of s =
    after_number (breaks 1) (keyed_at s 0 (bytes_of "winter="))
    (λ winter p. after_number (breaks 2) (keyed_at s p (bytes_of "price="))
    (λ price q. after_number (breaks 3) (keyed_at s q (bytes_of "events=")) (λ events r. Ok (top winter price events r))))

abbrev pub after_top : {A : Type 0} → (ℕ → A) → Result Top BrokenLine → (ℕ → ℕ → ℕ → ℕ → A) → A
after_top broken (Ok t) go = go t.winter t.price t.events t.next
after_top broken (Err b) go = broken b.line

-- from the line `reads=` on, which stands at a position; the line after the last is broken by what follows (rule 8.6)
unfoldable pub rest_of : List ℕ → ℕ → ℕ → ℕ → ℕ → Result Shape BrokenLine
rest_of s winter price events at =
    after_number (breaks (events + 4)) (keyed_at s at (bytes_of "reads="))
    (λ reads p. after_lines breaks (lines_end (read_line_at s) reads p (events + 4 + 1))
    (λ end. cond (eqb end (length s))
    (Ok (record {
      winter = winter;
      price = price;
      events = events;
      misplaced = misplaced_line (book_days winter) events (lines_said (read_line_at s) reads p);
    }))
    (breaks (events + 4 + 1 + reads))))

-- what a text that has the form says beside its lines, or the first line that breaks it (rule 8.6)
unfoldable pub form_of : List ℕ → Result Shape BrokenLine
form_of s =
    after_top breaks (top_of s)
    (λ winter price events at. after_lines breaks (lines_end (event_line_at s) events at 4) (λ p. rest_of s winter price events p))

-- the numbers of the event lines
unfoldable pub notices_said : List ℕ → List ℕ
notices_said s = after_top (λ line. []) (top_of s) (λ winter price events at. flatten (lines_said (event_line_at s) events at))

-- and the read lines
unfoldable pub reads_from : List ℕ → ℕ → List ReadLine
reads_from s at = after_number [] (keyed_at s at (bytes_of "reads=")) (λ reads p. lines_said (read_line_at s) reads p)

unfoldable pub reads_said : List ℕ → List ReadLine
reads_said s =
    after_top (λ line. []) (top_of s)
    (λ winter price events at. after_lines (λ line. []) (lines_end (event_line_at s) events at 4) (λ p. reads_from s p))
