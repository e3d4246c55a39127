-- A wrong winter is refused, and then a misplaced line; the notices of the other texts are settled on the front of the book.
-- Assumes nothing.
use native.Mathlib.Omega.{arith}
use lib.ListN.{length-take}
use Rattle.dates.proofs.Promise.{no_winter_lem, is_winter, winter_count}
use Rattle.text.proofs.PrintLaws.{prints_same, book_fits}
use Rattle.text.proofs.ValueLaws.{winter_refused, misplaced_refused}
use Rattle.text.proofs.answer.print_formed.Goals as goal

pub returns-in_default : goal.returns-in_default
returns-in_default c =
    let wrong = no_winter_lem _ _ c.in_default.is c.winter_days.ensures in
    record { for_each = λ l h. prints_same c.refuse.ensures (winter_refused _ _ l _ _ wrong) }

pub returns-in-Some-misplaced : goal.returns-in-Some-misplaced
returns-in-Some-misplaced c =
    let right = is_winter _ _ _ c.in-Some.is c.winter_days.ensures in
    record { for_each = λ l h. prints_same c.refuse-in-Some-misplaced.ensures (misplaced_refused _ _ l _ _ right _ c.in-Some-misplaced.is) }

pub slice_bounds-print_notices-end : goal.slice_bounds-print_notices-end
slice_bounds-print_notices-end c =
    let fits = book_fits _ _ (winter_count _ _ _ c.in-Some.is c.winter_days.ensures) in
    simp length-take (omega (arith, fits, c.length_of-hours.ensures))

pub print_notices-requires : goal.print_notices-requires
print_notices-requires c =
    let many = winter_count _ _ _ c.in-Some.is c.winter_days.ensures in
    let fits = book_fits _ _ many in
    record {
      winter = is_winter _ _ _ c.in-Some.is c.winter_days.ensures;
      placed = c.in_default-misplaced.is;
      hundred = c.requires.hundred;
      days = simp length-take (omega (arith, fits, c.length_of-hours.ensures, many, c.requires.days));
      room = c.requires.room;
    }

pub returns : goal.returns
returns c =
    let many = winter_count _ _ _ c.in-Some.is c.winter_days.ensures in
    record { for_each = λ l h. prints_same (c.print_notices.ensures.for_each l h) (rw (c.length_of-hours.ensures, many)) }
