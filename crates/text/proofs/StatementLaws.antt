-- The answer to any text, by the ways on which the call comes to it: no room, 32, 30, and what is printed of the values of a text that has the form.
-- Assumes nothing.
use Prim.Native.Nat.{ℕ, ◌≤◌, ◌<◌}
use mathlib.Core.Bool.{Bool, true, false, cond}
use mathlib.Core.List.{List}
use mathlib.Core.Path.{◌≡◌, refl, sym, ap, ◌∙◌}
use native.Mathlib.Omega.{arith}
use lib.ListN.{length, take, drop, replicate, length-append}
use lib.Seq.{sets}
use borrow.Author.Tests.{lt-ltb, le-ltb}
use Rattle.book.specs.Length.{book_length, most_readings}
use Rattle.book.specs.Values.{missing_mark}
use Rattle.dates.specs.Winters.{days}
use Rattle.form.proofs.Formed.{notices_long}
use Rattle.form.specs.Form.{form_of, notices_said, reads_said}
use Rattle.form.specs.Lines.{breaks}
use Rattle.std.specs.Prelude.{Result, Ok}
use Rattle.form.specs.Places.{book_in}
use Rattle.form.specs.declared.lines.BrokenLine.{BrokenLine}
use Rattle.form.specs.declared.whole.Shape.{Shape}
use Rattle.laws.proofs.Tables.{row_stops, row_goes}
use Rattle.laws.specs.Answer.{Answer}
use Rattle.laws.specs.Table.{refusal_at}
use Rattle.notices.specs.Notices.{longest_list}
use Rattle.printing.specs.Sheet.{refused_bytes}
use Rattle.text.specs.Prints.{Prints, PrintsHeld, values_bytes, shape_bytes}
use Rattle.text.specs.Refusals.{most_bytes, text_table, text_refusal}
use Rattle.text.specs.Statement.{settled_bytes, told_bytes, statement_of, answer_room, too_small, starts_with, answered, answered_in}
use Rattle.text.specs.Values.{is_broken, shape_in, winter_said, price_said, no_readings, book_said}
use Rattle.text.proofs.PrintLaws.{prints_same, refusal_told, winter_book}

-- the two rows before the values are looked at
module _ (s : List ℕ) where
  pub long_refused : most_bytes < length s → refused_bytes 32 0 ≡ statement_of s
  unfolding statement_of text_refusal text_table
  long_refused h = refusal_told (refusal_at 32 0) _ refl (row_stops _ _ (lt-ltb most_bytes (length s) h))

  module _ (h : length s ≤ most_bytes) where
    pub form_refused : (line : ℕ) → form_of s ≡ breaks line → refused_bytes 30 line ≡ statement_of s
    unfolding statement_of text_refusal text_table
    form_refused line e = rw e (refusal_told (refusal_at 30 line) _ refl (row_goes _ _ (le-ltb most_bytes (length s) h) (row_stops _ _ refl)))

    pub past_form : (f : Shape) → form_of s ≡ Ok f → shape_bytes f (book_in (reads_said s) (no_readings f.winter)) (notices_said s) ≡ statement_of s
    unfolding statement_of text_refusal text_table values_bytes
    past_form f e =
        let kept : is_broken (form_of s) ≡ false = ap is_broken e in
        ap (λ (x : Result Shape BrokenLine). shape_bytes (shape_in x) (book_in (reads_said s) (no_readings (shape_in x).winter)) (notices_said s)) (sym e)
        ∙ ap (λ (a : Answer). told_bytes a (settled_bytes (winter_said s) (book_said s) (price_said s) (notices_said s)))
        (row_goes _ _ (le-ltb most_bytes (length s) h) (row_goes _ _ kept refl))

-- the answer
module _ (s out : List ℕ) where
  pub no_room : length out < answer_room → (0 ≡ answered s out) × (out ≡ answered_in s out)
  unfolding answered answered_in
  no_room h = rw (lt-ltb (length out) answer_room h) (refl, refl)

  module _ (room : answer_room ≤ length out) {n : ℕ} {after : List ℕ} where
    pub answers : {bytes : List ℕ} → bytes ≡ statement_of s → Prints bytes out n after → (n ≡ answered s out) × (after ≡ answered_in s out)
    unfolding answered answered_in
    answers e p = let q = prints_same p e in rw (le-ltb (length out) answer_room room) (q.count, q.front)

    -- from the arrays that the text fills
    pub by_arrays : length s ≤ most_bytes → (f : Shape) → form_of s ≡ Ok f → {list book : List ℕ}
        → list ≡ sets (replicate longest_list 0) 0 (notices_said s)
        → book ≡ book_in (reads_said s) (replicate most_readings missing_mark)
        → PrintsHeld f.events list (shape_bytes f (take (book_length (days f.winter)) book)) out n after
        → (n ≡ answered s out) × (after ≡ answered_in s out)
    by_arrays h f e held filled p =
        let notices = p.for_each (notices_said s) (record { three = notices_long s f e; held = held }) in
        answers (rw (filled, winter_book f.winter (reads_said s)) (past_form s h f e)) notices

-- what is answered fits the output: nothing of what was printed can have been lost where the output is as long as before
pub answered_within : (s out after : List ℕ) (n : ℕ) → (n ≡ answered s out) × (after ≡ answered_in s out) → length after ≡ length out → n ≤ length after
unfolding answered answered_in
answered_within s out after n e h = by (too_small out) e.0 e.1
  where
    by : (b : Bool) → n ≡ cond b 0 (length (statement_of s)) → after ≡ cond b out (starts_with (statement_of s) out) → n ≤ length after
    by true f g = omega arith
    by false f g = omega (arith, f, ap length g, length-append (statement_of s) (drop (length (statement_of s)) out))
