-- A text that has the form is the text of some values that can be written in it: its lines one after the other, and nothing follows.
-- Assumes nothing.
use Prim.Native.Nat.{ℕ, ◌+◌}
use mathlib.Core.List.{List, [], ◌∷◌, map}
use mathlib.Core.Path.{◌≡◌, refl, ap, ◌∙◌}
use lib.Dec.{eqb}
use lib.ListN.{length}
use borrow.Author.Tests.{eqb-true}
use Rattle.form.proofs.Parts.{top_parts, no_whole}
use Rattle.std.specs.Prelude.{Some, Result, Ok, Err}
use Rattle.form.specs.declared.whole.Top.{Top}
use Rattle.form.specs.declared.lines.BrokenLine.{BrokenLine}
use Rattle.laws.proofs.Every.{Every}
use Rattle.numerals.proofs.Here.{Here, here_then, here_whole}
use Rattle.numerals.proofs.LineLaws.{lines_more, lines_append}
use Rattle.numerals.proofs.Ways.{first, after_number_lem}
use Rattle.numerals.proofs.WrittenFields.{keyed_written}
use Rattle.numerals.specs.Fields.{Small, keyed_at, number}
use Rattle.numerals.specs.Lines.{line, bytes_of_lines}
use Rattle.numerals.specs.Words.{bytes_of}
use Rattle.form.specs.Document.{ReadLine, Document, read_line, document_lines, text_of, SmallRead, Writable}
use Rattle.form.specs.Form.{top_of, after_top, rest_of, form_of, top}
use Rattle.form.specs.Lines.{after_lines, event_line_at, read_line_at, lines_end, breaks}
use Rattle.form.specs.declared.whole.Shape.{Shape}
use Rattle.form.proofs.LineKinds.{lines_written}
use Rattle.form.proofs.TextLines.{events, reads}

-- a text whose form is broken has no form, and a top that is broken is none
no_form : (f : Shape) (line : ℕ) → breaks line ≡ Ok f → ⊥
no_form f line e = no_whole line f e

pub no_top : (line winter price events p : ℕ) → breaks line ≡ Ok (top winter price events p) → ⊥
no_top line winter price events p e = no_whole line (top winter price events p) e

-- what came first where it went on after a top, or after some lines
module _ {A P : Type 0} {z : A} (broken : ℕ → A) (never : (line : ℕ) → broken line ≡ z → ⊥) where
  after_top_lem : (x : Result Top BrokenLine) (go : ℕ → ℕ → ℕ → ℕ → A) → after_top broken x go ≡ z
      → ((winter price events p : ℕ) → x ≡ Ok (top winter price events p) → go winter price events p ≡ z → P) → P
  after_top_lem (Ok t) go e on = on t.winter t.price t.events t.next refl e
  after_top_lem (Err b) go e on = absurd (never b.line e)

  after_lines_lem : (x : Result ℕ BrokenLine) (go : ℕ → A) → after_lines broken x go ≡ z → ((p : ℕ) → x ≡ Ok p → go p ≡ z → P) → P
  after_lines_lem (Ok p) go e on = on p refl e
  after_lines_lem (Err b) go e on = absurd (never b.line e)

-- the first three lines, where they were read, stand at the front
pub record TopRead (s : List ℕ) (winter price count p : ℕ) : Type 0 where
  pub price_at_lem : ℕ
  pub count_at : ℕ
  pub is_winter : keyed_at s 0 (bytes_of "winter=") ≡ Some (number winter price_at_lem)
  pub is_price : keyed_at s price_at_lem (bytes_of "price=") ≡ Some (number price count_at)
  pub is_count : keyed_at s count_at (bytes_of "events=") ≡ Some (number count p)

pub top_read : (s : List ℕ) (winter price count p : ℕ) → top_of s ≡ Ok (top winter price count p) → TopRead s winter price count p
unfolding top_of
top_read s winter price count p e =
    let never : (line : ℕ) → breaks line ≡ Ok (top winter price count p) → ⊥ = λ line. no_top line winter price count p in
    after_number_lem (breaks 1) (never 1) (keyed_at s 0 (bytes_of "winter=")) _ e
    (λ w p₁ k₁ e₁. after_number_lem (breaks 2) (never 2) (keyed_at s p₁ (bytes_of "price=")) _ e₁
    (λ c p₂ k₂ e₂. after_number_lem (breaks 3) (never 3) (keyed_at s p₂ (bytes_of "events=")) _ e₂
    (λ n p₃ k₃ same. let parts = top_parts same in
    record {
      price_at_lem = p₁;
      count_at = p₂;
      is_winter = k₁ ∙ rw parts.0;
      is_price = k₂ ∙ rw parts.1;
      is_count = k₃ ∙ rw (parts.2, parts.3);
    })))

-- the lines from `reads=` on, where they were read to the end of the text
record RestWritten (s : List ℕ) (at : ℕ) : Type 0 where
  values : List ReadLine
  few : Small (length values)
  fit : Every SmallRead values
  here : Here s at (bytes_of_lines (line "reads=" (length values ∷ []) ∷ map read_line values)) (length s)

rest_written : (s : List ℕ) (winter price events at : ℕ) (f : Shape) → rest_of s winter price events at ≡ Ok f → RestWritten s at
unfolding rest_of
rest_written s winter price events at f e =
    after_number_lem (breaks (events + 4)) (no_form f (events + 4)) (keyed_at s at (bytes_of "reads=")) _ e
    (λ count p counted e₁. after_lines_lem breaks (no_form f) (lines_end (read_line_at s) count p (events + 4 + 1)) _ e₁
    (λ q are e₂.
    let end = first (eqb q (length s)) _ _ (no_form f (events + 4 + 1 + count)) e₂ in
    let whole = are ∙ ap Ok (eqb-true q (length s) end.0) in
    let lines = lines_written (reads s) count p (events + 4 + 1) (length s) whole in
    let key = keyed_written s at (bytes_of "reads=") (length lines.values) p (cc (counted, lines.counted)) in
    record {
      values = lines.values;
      few = key.small;
      fit = lines.fit;
      here = rw lines_more (here_then key.here lines.here);
    }))

-- the values that a text is the text of
pub record Held (s : List ℕ) : Type 0 where
  pub document : Document
  pub writable : Writable document
  pub is : s ≡ text_of document

pub form_written : (s : List ℕ) (f : Shape) → form_of s ≡ Ok f → Held s
unfolding form_of document_lines
form_written s f e =
    after_top_lem breaks (no_form f) (top_of s) _ e
    (λ winter price count p is e₁. after_lines_lem breaks (no_form f) (lines_end (event_line_at s) count p 4) _ e₁
    (λ q are e₂.
    let lines = lines_written (events s) count p 4 q are in
    let rest = rest_written s winter price count q f e₂ in
    let top = top_read s winter price count p is in
    let x = keyed_written s 0 (bytes_of "winter=") winter top.price_at_lem top.is_winter in
    let y = keyed_written s top.price_at_lem (bytes_of "price=") price top.count_at top.is_price in
    let z = keyed_written s top.count_at (bytes_of "events=") (length lines.values) p (cc (top.is_count, lines.counted)) in
    record {
      document = record { winter = winter; price = price; events = lines.values; reads = rest.values };
      writable =
          record {
            winter = x.small;
            price = y.small;
            count = z.small;
            events = lines.fit;
            counted = rest.few;
            reads = rest.fit;
          };
      is = here_whole (here_then x.here (here_then y.here (here_then z.here (here_then lines.here rest.here))))
          ∙ simp (lines_more, lines_append);
    }))
