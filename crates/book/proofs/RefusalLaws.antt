-- Laws of the refusals with which every call on a book begins: what each guard refuses, one law for each way out, and that none is given exactly
-- where the winter is one and the book has its length.
-- Assumes nothing.
use Prim.Native.Nat.{ℕ, ◌≤◌}
use mathlib.Core.Bool.{true, false}
use mathlib.Core.Logic.{◌↔◌}
use mathlib.Core.Path.{◌≡◌}
use native.Mathlib.Omega.{arith}
use Rattle.dates.proofs.Promise.{no_winter_lem, is_winter, winter_count, winter_range}
use Rattle.dates.specs.Answers.{days_paper, winter_days}
use Rattle.dates.specs.Winters.{days}
use Rattle.std.specs.Prelude.{Option, Some, None, Result, Err, ok_or, IsErrAnd}
use Rattle.std.proofs.lemmas.Result.{err_from_is_err_and}
use Rattle.laws.proofs.Tables.{Numbered, NoneBroken, RowsBounded, row_stops, row_goes, rows_end}
use Rattle.laws.specs.Table.{refusal_at, first_of}
use Rattle.refusals.specs.Refusals.{rule_paper}
use Rattle.refusals.specs.declared.rule.Rule.TheVariants.{NoWinter}
use Rattle.refusals.specs.declared.rule.Rule.{Rule}
use Rattle.book.specs.Length.{book_length, wrong_length}
use Rattle.book.specs.Refusals.{bad_book, book_rows}
use Rattle.book.proofs.LengthLaws.{right_length, length_right}

module _ (w readings : ℕ) where
  module _ (r : Option ℕ) (e : days_paper r ≡ winter_days w) where
    pub winter_refused : r ≡ None → refusal_at 1 0 ≡ first_of (book_rows w readings)
    unfolding book_rows
    winter_refused q = row_stops _ _ (no_winter_lem w r q e)

    -- the error that a `?` hands on
    pub winter_told : (rule : Rule) → ok_or r NoWinter ≡ Err rule → (v : Result (Unit {0}) Rule) → IsErrAnd v (λ told. told ≡ rule)
        → rule_paper v 0 ≡ first_of (book_rows w readings)
    winter_told rule q v told =
        let none : r ≡ None = grind arith in
        let is : rule ≡ NoWinter = grind arith in
        let err = err_from_is_err_and v told in
        rw (err.1, err.2, is) (winter_refused none)

    module _ (count : ℕ) (q : r ≡ Some count) where
      pub book_refused : wrong_length count readings ≡ true → refusal_at 2 0 ≡ first_of (book_rows w readings)
      unfolding book_rows bad_book
      book_refused f = row_goes _ _ (is_winter w count r q e) (row_stops _ _ (rw (← winter_count w count r q e) f))

      pub none_refused : wrong_length count readings ≡ false → refusal_at 0 0 ≡ first_of (book_rows w readings)
      unfolding book_rows bad_book
      none_refused f = row_goes _ _ (is_winter w count r q e) (row_goes _ _ (rw (← winter_count w count r q e) f) rows_end)

  pub book_numbered : Numbered (book_rows w readings)
  unfolding book_rows
  book_numbered = omega arith

  pub book_bounded : RowsBounded (book_rows w readings)
  unfolding book_rows
  book_bounded = omega arith

  -- a winter, and a book of it
  pub right_book : NoneBroken (book_rows w readings) ↔ (((2010 ≤ w) × (w ≤ 2098)) × (readings ≡ book_length (days w)))
  unfolding book_rows bad_book
  right_book = (
    λ none. ((winter_range w).0 none.0, right_length (days w) readings none.1.0),
    λ right. ((winter_range w).1 right.0, (length_right (days w) readings right.1, tt)),
  )
