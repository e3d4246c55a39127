-- Where no read line is misplaced no value is left out: each line lies in the book, by recursion on the lines.
-- Assumes nothing.
use Prim.Native.Nat.{ℕ, ◌+◌, ◌≤◌}
use mathlib.Core.Bool.{false, ◌||◌}
use mathlib.Core.List.{List, [], ◌∷◌}
use mathlib.Core.Path.{◌≡◌, sym}
use native.Mathlib.Omega.{arith}
use lib.Dec.{ltb, leb}
use lib.ListN.{length}
use borrow.Author.Tests.{leb-false, ltb-false}
use Rattle.std.proofs.lemmas.Option.{none-some}
use Rattle.std.specs.Prelude.{Some, None}
use Rattle.numerals.proofs.Ways.{second}
use Rattle.laws.proofs.Every.{Every}
use Rattle.laws.proofs.Guards.{neither}
use Rattle.book.specs.Length.{day_hours, book_length}
use Rattle.form.specs.Document.{ReadLine}
use Rattle.form.specs.Places.{start_of, end_of, misplaced_by, misplaced, misplaced_in}

-- a line that is not misplaced lies in the book
in_book : (days end : ℕ) (x : ReadLine) → misplaced days end x ≡ false → end_of x ≤ book_length days
unfolding misplaced_by
in_book days end x e =
    let outer = neither (leb days x.day || ltb day_hours (x.hour + length x.values)) (ltb (start_of x) end) e in
    let inner = neither (leb days x.day) (ltb day_hours (x.hour + length x.values)) outer.0 in
    omega (arith, leb-false days x.day inner.0, ltb-false day_hours (x.hour + length x.values) inner.1)

pub none_left_out : (days : ℕ) (xs : List ReadLine) (k end : ℕ) → misplaced_in days xs k end ≡ None
    → Every (λ (x : ReadLine). end_of x ≤ book_length days) xs
unfolding misplaced_in
none_left_out days [] k end e = tt
none_left_out days (x ∷ xs) k end e =
    let here = second (misplaced days end x) (Some k) (misplaced_in days xs (k + 1) (end_of x)) (λ f. none-some k (sym f)) e in
    (in_book days end x here.0, none_left_out days xs (k + 1) (end_of x) here.1)
