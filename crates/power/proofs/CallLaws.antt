-- Laws of the call's own rows: what is known of a call that none of them refuses, and the other way round; bounds of what they refuse.
-- Assumes nothing.
use Prim.Native.Nat.{ℕ, ◌*◌, ◌%◌, ◌≤◌}
use mathlib.Core.Bool.{false}
use mathlib.Core.Path.{◌≡◌, sym, subst}
use native.Mathlib.Omega.{arith}
use lib.Dec.{ltb, eqb}
use borrow.Author.Tests.{ltb-false, le-ltb, eqb-true, eq-eqb, not-false}
use Rattle.book.proofs.RefusalLaws.{book_numbered, book_bounded, right_book}
use Rattle.book.specs.Length.{book_length}
use Rattle.book.specs.Refusals.{book_rows}
use Rattle.dates.specs.Winters.{days}
use Rattle.laws.proofs.Every.{left, right, joined}
use Rattle.laws.proofs.Guards.{neither, no_fault}
use Rattle.laws.proofs.Tables.{Numbered, NoneBroken, unrefused_none, Bounded, RowsBounded, bounded_first}
use Rattle.laws.specs.Bounds.{largest_number, largest_place}
use Rattle.laws.specs.Table.{refusal_at, Row, first_of, is_refusal}
use Rattle.notices.specs.Notices.{notice_numbers, most_notices, count_in}
use Rattle.schedule.proofs.Accepted.{whole_test}
use Rattle.schedule.proofs.Walk.{list_fits}
use Rattle.power.specs.Lines.{power_line_numbers}
use Rattle.power.specs.Refusals.{total_numbers, short_room, wrong_references, power_own_rows, power_call_rows}

-- what holds of a call that is not refused
pub record RightPower (w readings numbers room totals given : ℕ) : Type 0 where
  pub winter : (2010 ≤ w) × (w ≤ 2098)
  pub book : readings ≡ book_length (days w)
  pub whole : numbers % notice_numbers ≡ 0
  pub few : count_in numbers ≤ most_notices
  pub room_enough : power_line_numbers * count_in numbers ≤ room
  pub totals_for : total_numbers ≤ totals
  pub as_many : given ≡ count_in numbers

module _ (w readings numbers room totals given : ℕ) where
  pub call_numbered : Numbered (power_call_rows w readings numbers room totals given)
  unfolding power_call_rows
  call_numbered =
      joined (λ (r : Row). 1 ≤ r.number) (book_rows w readings) (power_own_rows numbers room totals given) (book_numbered w readings) (omega arith)

  pub call_none_right : NoneBroken (power_call_rows w readings numbers room totals given) → RightPower w readings numbers room totals given
  unfolding power_call_rows short_room wrong_references
  call_none_right none =
      let book = (right_book w readings).0 (left (λ (r : Row). r.broken ≡ false) (book_rows w readings) (power_own_rows numbers room totals given) none) in
      let rest = right (λ (r : Row). r.broken ≡ false) (book_rows w readings) (power_own_rows numbers room totals given) none in
      let rooms = neither (ltb room (power_line_numbers * count_in numbers)) (ltb totals total_numbers) rest.1.0 in
      record {
        winter = book.0;
        book = book.1;
        whole = (list_fits numbers rest.0).whole;
        few = (list_fits numbers rest.0).few;
        room_enough = ltb-false room (power_line_numbers * count_in numbers) rooms.0;
        totals_for = ltb-false totals total_numbers rooms.1;
        as_many = eqb-true given (count_in numbers) (not-false (eqb given (count_in numbers)) rest.1.1.0);
      }

  pub call_right_none : RightPower w readings numbers room totals given → NoneBroken (power_call_rows w readings numbers room totals given)
  unfolding power_call_rows short_room wrong_references
  call_right_none s =
      let list = whole_test numbers s.whole s.few in
      let lines = le-ltb room (power_line_numbers * count_in numbers) s.room_enough in
      let rooms = no_fault (ltb room (power_line_numbers * count_in numbers)) (ltb totals total_numbers) lines (le-ltb totals total_numbers s.totals_for) in
      joined (λ (r : Row). r.broken ≡ false) (book_rows w readings) (power_own_rows numbers room totals given) ((right_book w readings).1 (s.winter, s.book))
      (list, (rooms, (rw (eq-eqb given (count_in numbers) s.as_many), tt)))

  pub call_right : is_refusal (first_of (power_call_rows w readings numbers room totals given)) ≡ false → RightPower w readings numbers room totals given
  call_right e = call_none_right (unrefused_none (power_call_rows w readings numbers room totals given) call_numbered e)

  pub rows_bounded : RowsBounded (power_call_rows w readings numbers room totals given)
  unfolding power_call_rows
  rows_bounded =
      joined (λ (r : Row). (r.number ≤ largest_number) × (r.place ≤ largest_place)) (book_rows w readings) (power_own_rows numbers room totals given)
      (book_bounded w readings) (omega arith)

  pub call_bounded : (number : ℕ) → refusal_at number 0 ≡ first_of (power_call_rows w readings numbers room totals given) → number ≤ largest_number
  call_bounded number e = (subst Bounded (sym e) (bounded_first (power_call_rows w readings numbers room totals given) rows_bounded)).0
