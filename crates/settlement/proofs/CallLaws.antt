-- Laws of the call's own rows: what is known of a call that none of them refuses, and the other way round; bounds of what they refuse.
-- Assumes nothing.
use Prim.Native.Nat.{ℕ, ◌*◌, ◌%◌, ◌≤◌}
use mathlib.Core.Bool.{false}
use mathlib.Core.Path.{◌≡◌, sym, subst}
use native.Mathlib.Omega.{arith}
use borrow.Author.Tests.{ltb-false, le-ltb}
use Rattle.book.proofs.RefusalLaws.{book_numbered, book_bounded, right_book}
use Rattle.book.specs.Length.{book_length}
use Rattle.book.specs.Refusals.{book_rows}
use Rattle.dates.specs.Winters.{days}
use Rattle.laws.proofs.Every.{left, right, joined}
use Rattle.laws.proofs.Tables.{Numbered, NoneBroken, unrefused_none}
use Rattle.laws.proofs.Tables.{Bounded, RowsBounded, bounded_first}
use Rattle.laws.specs.Bounds.{largest_number, largest_place}
use Rattle.laws.specs.Table.{refusal_at, Row, first_of, is_refusal}
use Rattle.notices.specs.Notices.{notice_numbers, most_notices, count_in}
use Rattle.schedule.proofs.Accepted.{whole_test}
use Rattle.schedule.proofs.Walk.{list_fits}
use Rattle.settlement.specs.Lines.{line_numbers}
use Rattle.settlement.specs.Refusals.{short_output, own_rows, call_rows}
use Rattle.settlement.specs.Energies.{Fits}

-- what holds of a call that its own rows do not refuse
pub record RightCall (w readings numbers room : ℕ) : Type 0 where
  pub winter : (2010 ≤ w) × (w ≤ 2098)
  pub book : readings ≡ book_length (days w)
  pub whole : numbers % notice_numbers ≡ 0
  pub few : count_in numbers ≤ most_notices
  pub room_enough : line_numbers * count_in numbers ≤ room

pub right_fits : {w readings numbers room : ℕ} → RightCall w readings numbers room → Fits (count_in numbers) room
right_fits r = record { room_enough = r.room_enough; few = r.few }

pub call_numbered : (w readings numbers room : ℕ) → Numbered (call_rows w readings numbers room)
unfolding call_rows
call_numbered w readings numbers room =
    joined (λ (r : Row). 1 ≤ r.number) (book_rows w readings) (own_rows numbers room) (book_numbered w readings) (omega arith)

pub none_right : (w readings numbers room : ℕ) → NoneBroken (call_rows w readings numbers room) → RightCall w readings numbers room
unfolding call_rows short_output
none_right w readings numbers room none =
    let book = (right_book w readings).0 (left (λ (r : Row). r.broken ≡ false) (book_rows w readings) (own_rows numbers room) none) in
    let rest = right (λ (r : Row). r.broken ≡ false) (book_rows w readings) (own_rows numbers room) none in
    record {
      winter = book.0;
      book = book.1;
      whole = (list_fits numbers rest.0).whole;
      few = (list_fits numbers rest.0).few;
      room_enough = ltb-false room (line_numbers * count_in numbers) rest.1.0;
    }

pub right_none : (w readings numbers room : ℕ) → RightCall w readings numbers room → NoneBroken (call_rows w readings numbers room)
unfolding call_rows short_output
right_none w readings numbers room s =
    let list = whole_test numbers s.whole s.few in
    let room_there = le-ltb room (line_numbers * count_in numbers) s.room_enough in
    joined (λ (r : Row). r.broken ≡ false) (book_rows w readings) (own_rows numbers room) ((right_book w readings).1 (s.winter, s.book))
    (list, (room_there, tt))

pub call_right : (w readings numbers room : ℕ) → is_refusal (first_of (call_rows w readings numbers room)) ≡ false → RightCall w readings numbers room
call_right w readings numbers room e =
    none_right w readings numbers room (unrefused_none (call_rows w readings numbers room) (call_numbered w readings numbers room) e)

-- numbers and places are bounded
pub rows_bounded : (w readings numbers room : ℕ) → RowsBounded (call_rows w readings numbers room)
unfolding call_rows
rows_bounded w readings numbers room =
    joined (λ (r : Row). (r.number ≤ largest_number) × (r.place ≤ largest_place)) (book_rows w readings) (own_rows numbers room)
    (book_bounded w readings) (omega arith)

pub call_bounded : (w readings numbers room number : ℕ) → refusal_at number 0 ≡ first_of (call_rows w readings numbers room) → number ≤ largest_number
call_bounded w readings numbers room number e =
    (subst Bounded (sym e) (bounded_first (call_rows w readings numbers room) (rows_bounded w readings numbers room))).0
