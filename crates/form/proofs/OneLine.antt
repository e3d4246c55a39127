-- What one event line and one read line are, and what reading them answers and leaves.
-- Assumes nothing.
use Prim.Native.Nat.{ℕ}
use mathlib.Core.List.{List}
use mathlib.Core.Path.{◌≡◌, refl, ap, ◌∙◌}
use lib.Dec.{eqb}
use lib.ListN.{length}
use lib.Seq.{sets}
use borrow.Author.Tests.{eqb-true}
use Rattle.std.specs.Prelude.{Option, Some, None}
use Rattle.form.specs.declared.lines.Head.{Head}
use Rattle.form.specs.declared.places.Hours.{Hours}
use Rattle.book.specs.Length.{day_hours}
use Rattle.notices.specs.Notices.{notice_numbers}
use Rattle.numerals.proofs.Ways.{first, no_step}
use Rattle.numerals.specs.Fields.{after_step, word_at}
use Rattle.numerals.specs.Rows.{no_number, row_at}
use Rattle.numerals.specs.Words.{bytes_of}
use Rattle.form.specs.Lines.{exactly, event_line_at, head_at, after_head, read_from, no_read, read_line_at, head}
use Rattle.form.specs.Places.{put_read, hours_told}

-- what reading an event line answers and leaves in the list
abbrev pub EventPut : List ℕ → ℕ → List ℕ → ℕ → Option ℕ → List ℕ → Type 0
EventPut s at list k told after = (told ≡ (event_line_at s at).end) × (after ≡ sets list k (event_line_at s at).said)

-- an event line that is whole: its key, and a row of three numbers
pub record EventRead (s : List ℕ) (at q : ℕ) : Type 0 where
  pub from : ℕ
  pub key : word_at s at (bytes_of "event=") ≡ Some from
  pub ends : (row_at notice_numbers s from).end ≡ Some q
  pub said : (event_line_at s at).said ≡ (row_at notice_numbers s from).said
  pub three : length (row_at notice_numbers s from).said ≡ notice_numbers

pub event_read : (s : List ℕ) (at q : ℕ) → (event_line_at s at).end ≡ Some q → EventRead s at q
unfolding event_line_at
event_read s at q e = by (word_at s at (bytes_of "event=")) refl e
  where
    by : (x : Option ℕ) → word_at s at (bytes_of "event=") ≡ x → (after_step no_number x (λ p. exactly notice_numbers (row_at notice_numbers s p))).end ≡ Some q
        → EventRead s at q
    by None i e = absurd (no_step q e)
    by (Some p) i e =
        let t = first (eqb (length (row_at notice_numbers s p).said) notice_numbers) (row_at notice_numbers s p).end None (no_step q) e in
        record { from = p; key = i; ends = t.1; said = rw i; three = eqb-true _ _ t.0 }

pub event_three : (s : List ℕ) (at q : ℕ) → (event_line_at s at).end ≡ Some q → length (event_line_at s at).said ≡ notice_numbers
event_three s at q e = let r = event_read s at q e in ap length r.said ∙ r.three

-- what reading a read line answers and leaves in the book
abbrev pub ReadPut : List ℕ → ℕ → List ℕ → Option Hours → List ℕ → Type 0
ReadPut s at book told after = (told ≡ hours_told (read_line_at s at)) × (after ≡ put_read (read_line_at s at).said book)

-- a read line that is whole: its start, and a row of values
pub record ReadRead (s : List ℕ) (at q : ℕ) : Type 0 where
  pub day : ℕ
  pub hour : ℕ
  pub from : ℕ
  pub start : head_at s at ≡ Some (head day hour from)
  pub ends : (row_at day_hours s from).end ≡ Some q
  pub said : (read_line_at s at).said ≡ record { day = day; hour = hour; values = (row_at day_hours s from).said }

pub read_read : (s : List ℕ) (at q : ℕ) → (read_line_at s at).end ≡ Some q → ReadRead s at q
unfolding read_line_at
read_read s at q e = by (head_at s at) refl e
  where
    by : (x : Option Head) → head_at s at ≡ x → (after_head no_read x (λ day hour p. read_from day hour (row_at day_hours s p))).end ≡ Some q → ReadRead s at q
    by None i e = absurd (no_step q e)
    by (Some h) i e = record { day = h.day; hour = h.hour; from = h.next; start = i; ends = e; said = rw i }
