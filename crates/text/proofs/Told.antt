-- What is answered to a text, from the text to number and place: 32 by its length, 30 by its form, and else by the values that it is the text of;
-- and that a refused text prints just these two numbers.
-- Assumes nothing.
use Prim.Native.Nat.{ℕ, ◌≤◌, ◌<◌}
use mathlib.Core.Bool.{Bool, true, false}
use mathlib.Core.List.{List, [], ◌∷◌}
use mathlib.Core.Path.{◌≡◌, refl, sym, ap, ◌∙◌}
use lib.ListN.{length}
use borrow.Author.Tests.{lt-ltb, le-ltb, ne_eqb}
use Rattle.dates.specs.Winters.{no_winter, days}
use Rattle.form.proofs.Begins.{FirstBrokenLine}
use Rattle.form.proofs.Converse.{Held, form_written}
use Rattle.form.proofs.FirstBrokenLine.{broken_first}
use Rattle.form.proofs.Formed.{form_of_held}
use Rattle.form.proofs.PlaceLaws.{book_days_lem}
use Rattle.form.specs.Document.{Document, notices_in}
use Rattle.form.specs.Form.{form_of, notices_said}
use Rattle.form.specs.Lines.{breaks}
use Rattle.std.specs.Prelude.{Option, Result, Ok, Err}
use Rattle.form.specs.Places.{book_days, misplaced_line_in}
use Rattle.form.specs.declared.lines.BrokenLine.{BrokenLine}
use Rattle.form.specs.declared.whole.Shape.{Shape}
use Rattle.laws.proofs.Tables.{row_stops, row_goes}
use Rattle.laws.proofs.Tells.{Tells, place_in, table_tells}
use Rattle.laws.specs.Table.{Row, refusal_at, first_of}
use Rattle.numerals.specs.Numbers.{numbers_in}
use Rattle.printing.proofs.Shows.{refused_numbers}
use Rattle.text.specs.Refusals.{most_bytes, value_rows, text_table, text_refusal}
use Rattle.text.specs.Statement.{statement_of, answer_room, starts_with, answered, answered_in}
use Rattle.text.specs.Values.{is_broken, winter_said, price_said, misplaced_said}
use Rattle.text.proofs.FirstRefusal.{values_numbered}
use Rattle.text.proofs.HeldValues.{winter_is, price_is, notices_are, line_said}
use Rattle.text.proofs.PrintLaws.{refusal_told}

-- the table of the values that a text is the text of
abbrev pub document_rows : Document → List Row
document_rows d = value_rows d.winter (misplaced_line_in (days d.winter) d) d.price (notices_in d.events)

pub record TextTold (s : List ℕ) (number place : ℕ) : Type 0 where
  pub too_long : most_bytes < length s → (number ≡ 32) × (place ≡ 0)
  pub no_form : length s ≤ most_bytes → (Held s → ⊥) → (number ≡ 30) × FirstBrokenLine s place
  pub by_values : length s ≤ most_bytes → (h : Held s) → Tells (document_rows h.document) number place

-- lines judged by the days of the winter, or of no winter by any number of days, are answered alike
rows_alike : (w p : ℕ) (n m : Option ℕ) (l : List ℕ) → (no_winter w ≡ false → n ≡ m) → first_of (value_rows w n p l) ≡ first_of (value_rows w m p l)
unfolding value_rows
rows_alike w p n m l same = by (no_winter w) refl
  where
    by : (b : Bool) → no_winter w ≡ b → first_of (value_rows w n p l) ≡ first_of (value_rows w m p l)
    by true e = sym (row_stops _ _ e) ∙ row_stops _ _ e
    by false e = ap (λ (k : Option ℕ). first_of (value_rows w k p l)) (same e)

module _ (s : List ℕ) where
  long_told : most_bytes < length s → refusal_at 32 0 ≡ text_refusal s
  unfolding text_refusal text_table
  long_told h = row_stops _ _ (lt-ltb most_bytes (length s) h)

  module _ (h : length s ≤ most_bytes) where
    broken_told : (line : ℕ) → form_of s ≡ breaks line → refusal_at 30 line ≡ text_refusal s
    unfolding text_refusal text_table
    broken_told line e = rw e (row_goes _ _ (le-ltb most_bytes (length s) h) (row_stops _ _ refl))

    values_told : (f : Shape) → form_of s ≡ Ok f → first_of (value_rows (winter_said s) (misplaced_said s) (price_said s) (notices_said s))
        ≡ text_refusal s
    unfolding text_refusal text_table
    values_told f e = row_goes _ _ (le-ltb most_bytes (length s) h) (row_goes _ _ (ap is_broken e) refl)

    held_told : (t : Held s) → text_refusal s ≡ first_of (document_rows t.document)
    held_told t =
        let d = t.document in
        sym (values_told (form_of_held s t).shape (form_of_held s t).is)
        ∙ rw (winter_is s t, price_is s t, line_said s t, notices_are s t)
        (rows_alike d.winter d.price (misplaced_line_in (book_days d.winter) d) (misplaced_line_in (days d.winter) d) (notices_in d.events)
        (λ e. ap (λ (n : ℕ). misplaced_line_in n d) (book_days_lem d.winter e)))

    no_form_told : (Held s → ⊥) → ((text_refusal s).number ≡ 30) × FirstBrokenLine s (place_in (text_refusal s))
    no_form_told none = by (form_of s) refl
      where
        by : (f : Result Shape BrokenLine) → form_of s ≡ f → ((text_refusal s).number ≡ 30) × FirstBrokenLine s (place_in (text_refusal s))
        by (Err b) e = rw (← broken_told b.line e) (refl, broken_first s b.line e)
        by (Ok f) e = absurd (none (form_written s f e))

  pub text_told : TextTold s (text_refusal s).number (place_in (text_refusal s))
  text_told =
      record {
        too_long = λ h. rw (← long_told h) (refl, refl);
        no_form = no_form_told;
        by_values = λ h t. let d = t.document in
            table_tells (document_rows d) (values_numbered d.winter (misplaced_line_in (days d.winter) d) d.price (notices_in d.events))
            (text_refusal s) (held_told h t);
      }

  -- a refused text prints its number and place
  pub refused_shown : ((text_refusal s).number ≡ 0 → ⊥) → numbers_in (statement_of s) ≡ (text_refusal s).number ∷ place_in (text_refusal s) ∷ []
  unfolding statement_of
  refused_shown not =
      ap numbers_in (sym (refusal_told (text_refusal s) _ (rw (ne_eqb (text_refusal s).number 0 not)) refl))
      ∙ refused_numbers (text_refusal s).number (place_in (text_refusal s))

-- what the call leaves in its output: the answer at the front and the rest as it was, or nothing where there is no room for every answer
module _ (s out : List ℕ) where
  pub answer_there : answer_room ≤ length out → (answered s out ≡ length (statement_of s)) × (answered_in s out ≡ starts_with (statement_of s) out)
  unfolding answered answered_in
  answer_there h = rw (le-ltb (length out) answer_room h) (refl, refl)

  pub none_there : length out < answer_room → (answered s out ≡ 0) × (answered_in s out ≡ out)
  unfolding answered answered_in
  none_there h = rw (lt-ltb (length out) answer_room h) (refl, refl)
