-- Event lines and read lines are kinds of lines: one of them reads back as it is written and says what was written, and what is read as one is
-- written so. Proved part by part, from the laws of words, numbers and rows.
-- Assumes nothing.
use Prim.Native.Nat.{ℕ, ◌+◌, ◌≤◌}
use mathlib.Core.List.{List, [], ◌∷◌, ◌++◌, append_assoc}
use mathlib.Core.Path.{◌≡◌, refl, ap, ◌∙◌}
use native.Mathlib.Omega.{arith}
use lib.ListN.{length, drop, length-append}
use Rattle.std.specs.Prelude.{Some, None}
use Rattle.laws.proofs.Every.{Every}
use Rattle.book.specs.Length.{day_hours}
use Rattle.notices.specs.Notices.{notice_numbers}
use Rattle.numerals.proofs.Here.{Here, here_then, past}
use Rattle.numerals.proofs.LineLaws.{number_bytes, fields_more, line_is}
use Rattle.numerals.proofs.ReadFields.{comma_ends, word_reads, field_reads, row_reads}
use Rattle.numerals.proofs.Ways.{after_field_lem, after_step_lem}
use Rattle.numerals.proofs.WrittenFields.{word_written, field_written}
use Rattle.numerals.proofs.WrittenRows.{row_written}
use Rattle.numerals.specs.Decimal.{decimal}
use Rattle.numerals.specs.Fields.{Small, field_at, word_at}
use Rattle.numerals.specs.Lines.{line_bytes}
use Rattle.numerals.specs.Rows.{row_at}
use Rattle.numerals.specs.Words.{bytes_of, comma}
use Rattle.form.proofs.Parts.{head_parts}
use Rattle.std.proofs.lemmas.Option.{none-some}
use Rattle.form.specs.Document.{EventLine, ReadLine, event_numbers, event_line, read_line, SmallEvent, SmallRead}
use Rattle.form.specs.Lines.{event_line_at, head_at, read_line_at, head}
use Rattle.form.proofs.LineKinds.{Kind, LineWritten}
use Rattle.form.proofs.OneLine.{event_read, read_read}

-- an event line: its key, and three numbers
event_reads : (s r : List ℕ) (at : ℕ) (x : EventLine) → SmallEvent x → drop at s ≡ line_bytes (event_line x) ++ r
    → event_line_at s at ≡ record { said = event_numbers x; end = Some (at + length (line_bytes (event_line x))) }
unfolding event_line_at
event_reads s r at x small e =
    let key = bytes_of "event=" in
    let three = number_bytes (event_numbers x) in
    let there : drop at s ≡ key ++ (three ++ r) = e ∙ rw line_is (append_assoc key three r) in
    let row = row_reads s r (at + length key) notice_numbers (event_numbers x) (small.day, (small.start, (small.end, tt))) (omega arith) (omega arith)
    (past s key (three ++ r) at there) in
    let z : at + length key + length three ≡ at + length (line_bytes (event_line x))
    = omega (arith, ap length (line_is (event_line x)), length-append key three) in
    rw (word_reads s (three ++ r) at key there, row, z)

-- three numbers are those of an event line
record Three (ns : List ℕ) : Type 0 where
  value : EventLine
  fits : SmallEvent value
  is : ns ≡ event_numbers value

three : (ns : List ℕ) → Every Small ns → length ns ≡ notice_numbers → Three ns
three [] small e = absurd (omega arith)
three (a ∷ []) small e = absurd (omega arith)
three (a ∷ (b ∷ [])) small e = absurd (omega arith)
three (a ∷ (b ∷ (c ∷ []))) small e = record {
  value = record { day = a; start = b; end = c };
  fits =
      record {
        day = small.0;
        start = small.1.0;
        end = small.1.1.0;
      };
  is = refl;
}
three (a ∷ (b ∷ (c ∷ (d ∷ ns)))) small e = absurd (omega arith)

event_written : (s : List ℕ) (at q : ℕ) → (event_line_at s at).end ≡ Some q → LineWritten s (event_line_at s) event_line event_numbers SmallEvent at q
event_written s at q e =
    let read = event_read s at q e in
    let row = row_written notice_numbers s read.from q read.ends in
    let ns = three (row_at notice_numbers s read.from).said row.small read.three in
    let key = word_written s at (bytes_of "event=") read.from read.key in
    record {
      value = ns.value;
      fits = ns.fits;
      says = read.said ∙ ns.is;
      here = rw line_is (here_then key (rw ns.is at row.here));
    }

pub events : (s : List ℕ) → Kind s (event_line_at s) event_line event_numbers SmallEvent
events s = record { reads = event_reads s; written = event_written s }

-- the start of a read line
abbrev head_bytes : ℕ → ℕ → List ℕ
head_bytes day hour = bytes_of "read=" ++ ((decimal day ++ (comma ∷ [])) ++ (decimal hour ++ (comma ∷ [])))

-- a read line is its start and its values
read_bytes : (day hour : ℕ) (vs : List ℕ) → 1 ≤ length vs
    → line_bytes (read_line (record { day = day; hour = hour; values = vs })) ≡ head_bytes day hour ++ number_bytes vs
read_bytes day hour [] some = absurd (omega arith)
read_bytes day hour (v ∷ vs) some = simp (line_is, fields_more, append_assoc)

read_reads : (s r : List ℕ) (at : ℕ) (x : ReadLine) → SmallRead x → drop at s ≡ line_bytes (read_line x) ++ r
    → read_line_at s at ≡ record { said = x; end = Some (at + length (line_bytes (read_line x))) }
unfolding read_line_at head_at
read_reads s r at x small e =
    let key = bytes_of "read=" in
    let day = decimal x.day in
    let hour = decimal x.hour in
    let vs = number_bytes x.values in
    let is = read_bytes x.day x.hour x.values small.some in
    let after_hour = vs ++ r in
    let after_day = hour ++ (comma ∷ after_hour) in
    let after_key = day ++ (comma ∷ after_day) in
    let there : drop at s ≡ key ++ after_key = e ∙ rw is (simp append_assoc) in
    let first = field_reads s after_day (at + length key) x.day comma small.day comma_ends (past s key after_key at there) in
    let at_hour = at + length key + length (day ++ (comma ∷ [])) in
    let second = field_reads s after_hour at_hour x.hour comma small.hour comma_ends first.next in
    let at_values = at_hour + length (hour ++ (comma ∷ [])) in
    let row = row_reads s r at_values day_hours x.values small.values small.some small.few second.next in
    let z : at_values + length vs ≡ at + length (line_bytes (read_line x))
    = omega (
      arith,
      ap length is,
      length-append (head_bytes x.day x.hour) vs,
      length-append key ((day ++ (comma ∷ [])) ++ (hour ++ (comma ∷ []))),
      length-append (day ++ (comma ∷ [])) (hour ++ (comma ∷ [])),
    ) in
    rw (word_reads s after_key at key there, first.read, second.read, row, z)

-- what is read as the start of a read line is written so
record HeadWritten (s : List ℕ) (at day hour q : ℕ) : Type 0 where
  here : Here s at (head_bytes day hour) q
  small_day : Small day
  small_hour : Small hour

no_head : (day hour q : ℕ) → None ≡ Some (head day hour q) → ⊥
no_head day hour q e = none-some (head day hour q) e

head_written : (s : List ℕ) (at day hour q : ℕ) → head_at s at ≡ Some (head day hour q) → HeadWritten s at day hour q
unfolding head_at
head_written s at day hour q e =
    let never = no_head day hour q in
    after_step_lem None never (word_at s at (bytes_of "read=")) _ e
    (λ p key e₁. after_field_lem None never comma (field_at s p) _ e₁
    (λ d p₁ f₁ e₂. after_field_lem None never comma (field_at s p₁) _ e₂
    (λ h p₂ f₂ same.
    let first = field_written s p day comma p₁ (f₁ ∙ rw (head_parts same).0) in
    let second = field_written s p₁ hour comma q (f₂ ∙ rw ((head_parts same).1, (head_parts same).2)) in
    record {
      here = here_then (word_written s at (bytes_of "read=") p key) (here_then first.here second.here);
      small_day = first.small;
      small_hour = second.small;
    })))

read_written : (s : List ℕ) (at q : ℕ) → (read_line_at s at).end ≡ Some q → LineWritten s (read_line_at s) read_line (λ x. x) SmallRead at q
read_written s at q e =
    let read = read_read s at q e in
    let start = head_written s at read.day read.hour read.from read.start in
    let row = row_written day_hours s read.from q read.ends in
    let vs = (row_at day_hours s read.from).said in
    record {
      value = record { day = read.day; hour = read.hour; values = vs };
      fits = record { day = start.small_day; hour = start.small_hour; values = row.small; some = row.some; few = row.few };
      says = read.said;
      here = rw (read_bytes read.day read.hour vs row.some) (here_then start.here row.here);
    }

pub reads : (s : List ℕ) → Kind s (read_line_at s) read_line (λ x. x) SmallRead
reads s = record { reads = read_reads s; written = read_written s }
