-- Which first lines of a text keep the form: the first k lines of some values that can be written stand at its front. Where more lines keep it
-- fewer do, so that the first line that breaks the form is one only.
-- Assumes nothing.
use Prim.Native.Nat.{ℕ, zero, suc, ◌+◌, ◌-◌, ◌≤◌}
use mathlib.Core.List.{List, [], ◌∷◌, ◌++◌, append_assoc, map}
use mathlib.Core.Logic.{⊎_elim}
use mathlib.Core.Path.{◌≡◌, sym, ap, ◌∙◌}
use native.Mathlib.Nat.{le_antisymm}
use native.Mathlib.Omega.{arith}
use lib.ListN.{length, take, drop, replicate, length-append, length-map, take-append-drop}
use lib.Seq.{take_at, take-take}
use Rattle.form.specs.Lines.{breaks}
use Rattle.laws.proofs.Every.{Every}
use Rattle.laws.proofs.Order.{either_order}
use Rattle.numerals.proofs.LineLaws.{lines_append}
use Rattle.numerals.specs.Lines.{Line, line, bytes_of_lines}
use Rattle.form.specs.Document.{EventLine, ReadLine, Document, event_line, read_line, document_lines, SmallEvent, SmallRead, Writable}
use Rattle.form.proofs.Converse.{Held}
use Rattle.form.proofs.LinesInText.{LinesHere}

-- the lines of a text from its event lines on
abbrev pub body_lines : List EventLine → List ReadLine → List Line
body_lines events reads = map event_line events ++ (line "reads=" (length reads ∷ []) ∷ map read_line reads)

-- how many lines values have
pub document_long : (d : Document) → length (document_lines d) ≡ length d.events + 4 + length d.reads
unfolding document_lines
document_long d =
    omega (
      arith,
      length-append (map event_line d.events) (body_lines [] d.reads),
      length-map d.events event_line,
      length-map d.reads read_line,
    )

-- the first k lines of a text keep the form
pub record Begins (s : List ℕ) (k : ℕ) : Type 0 where
  pub document : Document
  pub writable : Writable document
  pub enough : k ≤ length (document_lines document)
  pub rest : List ℕ
  pub is : s ≡ bytes_of_lines (take k (document_lines document)) ++ rest

-- a text of no values, of which line k is the first that breaks the form
pub record FirstBrokenLine (s : List ℕ) (k : ℕ) : Type 0 where
  pub no_text : Held s → ⊥
  pub from_one : 1 ≤ k
  pub before : Begins s (k - 1)
  pub breaks : Begins s k → ⊥

-- j lines keep the form, and with one more they do not
pub next_breaks : (s : List ℕ) (j k : ℕ) → (Held s → ⊥) → k ≡ suc j → Begins s j → (Begins s (suc j) → ⊥) → FirstBrokenLine s k
next_breaks s j k never e before breaks =
    let f : k - 1 ≡ j = omega arith in
    record { no_text = never; from_one = omega arith; before = rw f before; breaks = rw e breaks }

-- lines that stand at the front are the first lines of values whose lines start with them
pub begins : (s : List ℕ) (d : Document) (k q : ℕ) (xs ys : List Line) → Writable d → document_lines d ≡ xs ++ ys → length xs ≡ k → LinesHere s 0 xs q
    → Begins s k
begins s d k q xs ys ok e long here = record {
  document = d;
  writable = ok;
  enough = omega (arith, ap length e, length-append xs ys);
  rest = here.rest;
  is = here.split ∙ ap (λ (l : List Line). bytes_of_lines l ++ here.rest) (sym (ap (take k) e ∙ take_at xs ys k long));
}

-- any lines make up the number of event lines or of read lines where fewer were read
abbrev pub any_event : EventLine
any_event = record { day = 0; start = 0; end = 0 }

abbrev pub any_read : ReadLine
any_read = record { day = 0; hour = 0; values = 0 ∷ [] }

repeated : {A : Type 0} (P : A → Type 0) (n : ℕ) (x : A) → P x → Every P (replicate n x)
repeated P zero x h = tt
repeated P (suc n) x h = (h, repeated P n x h)

pub small_events : (n : ℕ) → Every SmallEvent (replicate n any_event)
small_events n = repeated SmallEvent n any_event (record { day = omega arith; start = omega arith; end = omega arith })

pub small_reads : (n : ℕ) → Every SmallRead (replicate n any_read)
small_reads n =
    repeated SmallRead n any_read
    (record { day = omega arith; hour = omega arith; values = (omega arith, tt); some = omega arith; few = omega arith })

-- where more lines keep the form fewer do
shorter : (s : List ℕ) (j k : ℕ) → j ≤ k → Begins s k → Begins s j
shorter s j k h b =
    let xs = document_lines b.document in
    let e : take k xs ≡ take j xs ++ drop j (take k xs) = sym (take-append-drop j (take k xs)) ∙ rw (take-take j k xs h) in
    record {
      document = b.document;
      writable = b.writable;
      enough = omega (arith, b.enough);
      rest = bytes_of_lines (drop j (take k xs)) ++ b.rest;
      is = b.is ∙ ap (λ (l : List Line). bytes_of_lines l ++ b.rest) e ∙ rw (lines_append, append_assoc);
    }

not_later : (s : List ℕ) (j k : ℕ) → FirstBrokenLine s j → FirstBrokenLine s k → j ≤ k
not_later s j k x y = ⊎_elim (λ h. absurd (y.breaks (shorter s k (j - 1) (omega arith) x.before))) (λ h. h) (either_order k j)

-- no other line is the first that breaks the form
pub one_first : (s : List ℕ) (j k : ℕ) → FirstBrokenLine s j → FirstBrokenLine s k → j ≡ k
one_first s j k x y = le_antisymm (not_later s j k x y) (not_later s k j y x)
