-- The round trip: the text of values that can be written has the form, and says those values. Proved by the text in six parts, each read
-- where the one before it ends.
-- Assumes nothing.
use Prim.Native.Nat.{ℕ, ◌+◌}
use mathlib.Core.List.{List, [], ◌∷◌, ◌++◌, map, map-id, flatten}
use mathlib.Core.Path.{◌≡◌, refl, ap, ◌∙◌}
use lib.ListN.{length}
use borrow.Author.Tests.{eq-eqb}
use Rattle.std.specs.Prelude.{Some, Ok}
use Rattle.numerals.proofs.ReadFields.{keyed_reads}
use Rattle.numerals.specs.Fields.{keyed_at, number}
use Rattle.numerals.specs.Words.{bytes_of}
use Rattle.form.specs.Document.{EventLine, Document, event_numbers, event_line, read_line, text_of, SmallEvent, SmallRead, Writable, notices_in}
use Rattle.form.specs.Form.{top_of, rest_of, form_of, notices_said, reads_from, reads_said, top}
use Rattle.form.specs.Lines.{event_line_at, read_line_at, lines_said}
use Rattle.form.specs.Places.{book_days, misplaced_line_in}
use Rattle.form.specs.declared.whole.Shape.{Shape}
use Rattle.form.proofs.LineKinds.{LinesRead, lines_read}
use Rattle.form.proofs.TextLines.{events, reads}
use Rattle.form.proofs.TextParts.{reads_part, from_counted, from_events, from_count, from_price, parts, price_at, count_at, events_at, counted_at, reads_at}
use Rattle.form.proofs.TextParts.{at_price, at_count, at_events, at_counted, at_reads, at_end}

-- a text of the shape f says the values of a document: its numbers, how many notices it has, these, the first misplaced read line for the days
-- of its winter, and the read lines
pub record Says (s : List ℕ) (f : Shape) (d : Document) : Type 0 where
  pub winter : f.winter ≡ d.winter
  pub price : f.price ≡ d.price
  pub count : f.events ≡ length d.events
  pub misplaced : f.misplaced ≡ misplaced_line_in (book_days d.winter) d
  pub notices : notices_said s ≡ notices_in d.events
  pub read_lines_lem : reads_said s ≡ d.reads

abbrev pub shape_of : Document → Shape
shape_of d = record {
  winter = d.winter;
  price = d.price;
  events = length d.events;
  misplaced = misplaced_line_in (book_days d.winter) d;
}

-- the numbers of event lines, one line after the other, are the list of notices
pub notices_flat : (xs : List EventLine) → flatten (map event_numbers xs) ≡ notices_in xs
unfolding flatten notices_in
notices_flat [] = refl
notices_flat (x ∷ xs) = ap (λ (l : List ℕ). event_numbers x ++ l) (notices_flat xs)

module _ (d : Document) (ok : Writable d) where
  top_read : top_of (text_of d) ≡ Ok (top d.winter d.price (length d.events) (events_at d))
  unfolding top_of
  top_read = rw (
    keyed_reads (text_of d) (bytes_of "winter=") (from_price d) 0 d.winter ok.winter (parts d),
    keyed_reads (text_of d) (bytes_of "price=") (from_count d) (price_at d) d.price ok.price (at_price d),
    keyed_reads (text_of d) (bytes_of "events=") (from_events d) (count_at d) (length d.events) ok.count (at_count d),
  )

  events_read : LinesRead (text_of d) (event_line_at (text_of d)) event_line event_numbers SmallEvent d.events (events_at d) 4
  events_read = lines_read (events (text_of d)) (from_counted d) d.events (events_at d) 4 ok.events (at_events d)

  counted_read : keyed_at (text_of d) (counted_at d) (bytes_of "reads=") ≡ Some (number (length d.reads) (reads_at d))
  counted_read = keyed_reads (text_of d) (bytes_of "reads=") (reads_part d) (counted_at d) (length d.reads) ok.counted (at_counted d)

  reads_read : LinesRead (text_of d) (read_line_at (text_of d)) read_line (λ x. x) SmallRead d.reads (reads_at d) (length d.events + 4 + 1)
  reads_read = lines_read (reads (text_of d)) [] d.reads (reads_at d) (length d.events + 4 + 1) ok.reads (at_reads d)

  reads_said_lem : lines_said (read_line_at (text_of d)) (length d.reads) (reads_at d) ≡ d.reads
  reads_said_lem = reads_read.say_them ∙ map-id d.reads

  form_read : form_of (text_of d) ≡ Ok (shape_of d)
  unfolding form_of rest_of
  form_read = rw (
    top_read,
    events_read.ends,
    counted_read,
    reads_read.ends,
    eq-eqb (reads_at d + length (reads_part d)) (length (text_of d)) (at_end d),
    reads_said_lem,
  )

  says : Says (text_of d) (shape_of d) d
  unfolding notices_said reads_from reads_said
  says = record {
    winter = refl;
    price = refl;
    count = refl;
    misplaced = refl;
    notices = rw (top_read, events_read.say_them) (notices_flat d.events);
    read_lines_lem = rw (top_read, events_read.ends, counted_read) reads_said_lem;
  }

  pub text_read : (form_of (text_of d) ≡ Ok (shape_of d)) × Says (text_of d) (shape_of d) d
  text_read = (form_read, says)
