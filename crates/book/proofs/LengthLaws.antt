-- Laws of a book's length: it is wrong exactly where it is not 24 numbers a day.
-- Assumes nothing.
use Prim.Native.Nat.{ℕ}
use mathlib.Core.Bool.{false}
use mathlib.Core.Path.{◌≡◌}
use lib.Dec.{eqb}
use borrow.Author.Tests.{eqb-true, eq-eqb, not-false}
use Rattle.book.specs.Length.{book_length, wrong_length}

module _ (days n : ℕ) where
  pub right_length : wrong_length days n ≡ false → n ≡ book_length days
  right_length e = eqb-true n (book_length days) (not-false (eqb n (book_length days)) e)

  pub length_right : n ≡ book_length days → wrong_length days n ≡ false
  length_right e = rw (eq-eqb n (book_length days) e)
