-- Laws of a text's book: its days and its length, and that read lines fill the front of a book as they fill a book so long.
-- Assumes nothing.
use Prim.Native.Nat.{ℕ, suc, ◌≤◌, ◌<◌}
use mathlib.Core.Bool.{false}
use mathlib.Core.List.{List, [], ◌∷◌}
use mathlib.Core.Logic.{⊎_elim}
use mathlib.Core.Path.{◌≡◌, refl, sym, ap, ◌∙◌}
use native.Mathlib.Omega.{arith}
use lib.ListN.{length, take, set, length-take}
use lib.Seq.{sets, length-sets, set_out, take-set-le, take-set-lt}
use Rattle.std.specs.Option.{unwrap_or}
use Rattle.std.specs.Prelude.{Option, Some, None}
use Rattle.dates.proofs.Promise.{no_winter_lem, is_winter, winter_count}
use Rattle.dates.specs.Answers.{days_paper, winter_days}
use Rattle.dates.specs.Winters.{no_winter, days}
use Rattle.laws.proofs.Order.{either_order}
use Rattle.form.specs.Document.{ReadLine}
use Rattle.form.specs.Places.{book_days, start_of, put_read, book_in}

-- the days of a winter's book are those of the winter
pub book_days_lem : (w : ℕ) → no_winter w ≡ false → book_days w ≡ days w
unfolding book_days
book_days_lem w e = rw e

-- and by what the calendar answers
pub wrong_winter_lem : (w : ℕ) (r : Option ℕ) → r ≡ None → days_paper r ≡ winter_days w → 0 ≡ book_days w
unfolding book_days
wrong_winter_lem w r q e = rw (no_winter_lem w r q e)

pub right_winter : (w n : ℕ) (r : Option ℕ) → r ≡ Some n → days_paper r ≡ winter_days w → n ≡ book_days w
right_winter w n r q e = winter_count w n r q e ∙ sym (book_days_lem w (is_winter w n r q e))

pub days_or_none : (w : ℕ) (r : Option ℕ) → days_paper r ≡ winter_days w → unwrap_or r 0 ≡ book_days w
days_or_none w None q = wrong_winter_lem w None refl q
days_or_none w (Some n) q = right_winter w n (Some n) refl q

-- the front of a book is filled as a book so long: what lies past its end is left out there
front_put : (n : ℕ) (vs book : List ℕ) (k : ℕ) → take n (sets book k vs) ≡ sets (take n book) k vs
front_put n [] book k = refl
front_put n (v ∷ vs) book k =
    front_put n vs (set book k v) (suc k)
    ∙ ap (λ (l : List ℕ). sets l (suc k) vs)
    (⊎_elim (λ (h : k < n). take-set-lt n book k v h)
    (λ (h : n ≤ k). take-set-le n book k v h ∙ sym (set_out (take n book) k v (omega (arith, length-take n book))))
    (either_order k n))

pub book_front : (n : ℕ) (xs : List ReadLine) (book : List ℕ) → take n (book_in xs book) ≡ book_in xs (take n book)
unfolding book_in
book_front n [] book = refl
book_front n (x ∷ xs) book = book_front n xs (put_read x book) ∙ ap (book_in xs) (front_put n x.values book (start_of x))

-- and read lines make no book longer
pub book_long : (xs : List ReadLine) (book : List ℕ) → length (book_in xs book) ≡ length book
unfolding book_in
book_long [] book = refl
book_long (x ∷ xs) book = book_long xs (put_read x book) ∙ length-sets book (start_of x) x.values
