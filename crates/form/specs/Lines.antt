-- The event lines and the read lines of a text, read from a position on: rules 8.4 and 8.5.
-- Assumes nothing.
use Rattle.std.specs.Prelude.{ℕ, zero, suc, ◌+◌, cond, List, [], ◌∷◌, eqb, length, Option, Some, None, Result, Ok, Err}
use Rattle.book.specs.Length.{day_hours}
use Rattle.notices.specs.Notices.{notice_numbers}
use Rattle.numerals.specs.Fields.{after_field, after_step, field_at, word_at}
use Rattle.numerals.specs.Rows.{Read, no_number, row_at}
use Rattle.numerals.specs.Words.{bytes_of, comma}
use Rattle.form.specs.Document.{ReadLine}
use Rattle.form.specs.declared.lines.BrokenLine.{BrokenLine}
use Rattle.form.specs.declared.lines.Head.{Head}

-- numbers that are so many; else their line is broken
abbrev pub exactly : ℕ → Read (List ℕ) → Read (List ℕ)
exactly n r = record { said = r.said; end = cond (eqb (length r.said) n) r.end None }

-- `event=day,s,e` (rule 8.4)
unfoldable pub event_line_at : List ℕ → ℕ → Read (List ℕ)
event_line_at s at = after_step no_number (word_at s at (bytes_of "event=")) (λ p. exactly notice_numbers (row_at notice_numbers s p))

-- a day, an hour and the position after them
abbrev pub head : ℕ → ℕ → ℕ → Head
head day hour p = record { day = day; hour = hour; next = p }

-- `read=day,hour,` (rule 8.5)
unfoldable pub head_at : List ℕ → ℕ → Option Head
head_at s at =
    after_step None (word_at s at (bytes_of "read="))
    (λ p. after_field None comma (field_at s p)
    (λ day q. after_field None comma (field_at s q) (λ hour next. Some (head day hour next))))

-- the values of a day from an hour on, and a line that says none
abbrev pub read_from : ℕ → ℕ → Read (List ℕ) → Read ReadLine
read_from day hour r = record { said = record { day = day; hour = hour; values = r.said }; end = r.end }

abbrev pub no_read : Read ReadLine
no_read = read_from 0 0 no_number

abbrev pub after_head : {A : Type 0} → A → Option Head → (ℕ → ℕ → ℕ → A) → A
after_head broken (Some h) go = go h.day h.hour h.next
after_head broken None go = broken

-- `read=day,hour,v,..` (rule 8.5)
unfoldable pub read_line_at : List ℕ → ℕ → Read ReadLine
read_line_at s at = after_head no_read (head_at s at) (λ day hour p. read_from day hour (row_at day_hours s p))

-- a line that breaks the form
abbrev pub breaks : {A : Type 0} → ℕ → Result A BrokenLine
breaks line = Err (record { line = line })

-- n lines of a kind from a position on, by what reads one of them: where they end, if the first is line `line` of the text (rule 8.7)
unfoldable pub lines_end : {A : Type 0} → (ℕ → Read A) → ℕ → ℕ → ℕ → Result ℕ BrokenLine
lines_end one zero at line = Ok at
lines_end one (suc n) at line = after_step (breaks line) (one at).end (λ p. lines_end one n p (line + 1))

-- and what they say, up to the one that breaks the form if one does
unfoldable pub lines_said : {A : Type 0} → (ℕ → Read A) → ℕ → ℕ → List A
lines_said one zero at = []
lines_said one (suc n) at = (one at).said ∷ after_step [] (one at).end (λ p. lines_said one n p)

abbrev pub after_lines : {A : Type 0} → (ℕ → A) → Result ℕ BrokenLine → (ℕ → A) → A
after_lines broken (Ok p) go = go p
after_lines broken (Err b) go = broken b.line
