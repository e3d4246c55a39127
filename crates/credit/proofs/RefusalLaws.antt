-- Laws of the refusals: what is known of a call and of a settlement that are not refused, and the other way round; bounds of what is refused.
-- Assumes nothing.
use Prim.Native.Nat.{ℕ, ◌*◌, ◌%◌, ◌≤◌}
use mathlib.Core.Bool.{false}
use mathlib.Core.List.{List, ◌++◌}
use mathlib.Core.Path.{◌≡◌, sym, ap, subst, ◌∙◌}
use native.Mathlib.Omega.{arith}
use lib.ListN.{length}
use borrow.Author.Tests.{ltb-false, le-ltb}
use Rattle.book.proofs.RefusalLaws.{book_numbered, book_bounded, right_book}
use Rattle.book.specs.Length.{book_length}
use Rattle.book.specs.Refusals.{book_rows}
use Rattle.dates.proofs.Promise.{winter_range}
use Rattle.dates.specs.Winters.{days}
use Rattle.calendar.specs.WinterOf.{winter_of}
use Rattle.laws.proofs.Every.{left, right, joined}
use Rattle.laws.proofs.Tables.{Numbered, NoneBroken, unrefused_none, none_accepted, part_goes, told_stops, Bounded, RowsBounded, bounded_first, bounded_parts}
use Rattle.laws.specs.Bounds.{largest_number, largest_place}
use Rattle.laws.specs.Table.{refusal_at, Row, first_of, is_refusal}
use Rattle.money.proofs.PriceLaws.{RightPrice, right_price, price_right}
use Rattle.notices.specs.Notices.{notice_numbers, most_notices, count_in, count_of}
use Rattle.notices.specs.Profiles.{figures_of}
use Rattle.notices.specs.declared.profiles.Profile.TheVariants.{Credit}
use Rattle.refusals.proofs.RuleNumbers.{number_range}
use Rattle.refusals.specs.Refusals.{rule_number, at, verdict_paper}
use Rattle.refusals.specs.declared.rule.Rule.{Rule}
use Rattle.std.specs.Prelude.{Err, ⊤}
use Rattle.schedule.proofs.Accepted.{Lawful, whole_test, notices_lawful, lawful_notices}
use Rattle.schedule.proofs.Bounds.{notices_bounded}
use Rattle.schedule.proofs.RuleLaws.{checked_notices}
use Rattle.schedule.proofs.Walk.{list_fits, notices_numbered}
use Rattle.schedule.specs.ListCheck.{notices_table, checked_in}
use Rattle.credit.specs.Lines.{line_numbers}
use Rattle.credit.specs.Refusals.{short_output, own_rows, call_rows, settlement_table, refusal_of}
use Rattle.credit.specs.Settlement.{Fits}

-- what holds of a call that is not refused
pub record RightCall (w readings p numbers room : ℕ) : Type 0 where
  pub winter : (2010 ≤ w) × (w ≤ 2098)
  pub book : readings ≡ book_length (days w)
  pub price : RightPrice p
  pub whole : numbers % notice_numbers ≡ 0
  pub few : count_in numbers ≤ most_notices
  pub room_enough : line_numbers * count_in numbers ≤ room

pub right_fits : {w readings p numbers room : ℕ} → RightCall w readings p numbers room → Fits p (count_in numbers) room
right_fits {p = p} r = record { room_enough = r.room_enough; few = r.few; price = price_right p r.price }

call_numbered : (w readings p numbers room : ℕ) → Numbered (call_rows w readings p numbers room)
unfolding call_rows
call_numbered w readings p numbers room =
    joined (λ (r : Row). 1 ≤ r.number) (book_rows w readings) (own_rows p numbers room) (book_numbered w readings) (omega arith)

none_right : (w readings p numbers room : ℕ) → NoneBroken (call_rows w readings p numbers room) → RightCall w readings p numbers room
unfolding call_rows short_output
none_right w readings p numbers room none =
    let book = (right_book w readings).0 (left (λ (r : Row). r.broken ≡ false) (book_rows w readings) (own_rows p numbers room) none) in
    let rest = right (λ (r : Row). r.broken ≡ false) (book_rows w readings) (own_rows p numbers room) none in
    record {
      winter = book.0;
      book = book.1;
      price = right_price p rest.0;
      whole = (list_fits numbers rest.1.0).whole;
      few = (list_fits numbers rest.1.0).few;
      room_enough = ltb-false room (line_numbers * count_in numbers) rest.1.1.0;
    }

right_none : (w readings p numbers room : ℕ) → RightCall w readings p numbers room → NoneBroken (call_rows w readings p numbers room)
unfolding call_rows short_output
right_none w readings p numbers room s =
    let list = whole_test numbers s.whole s.few in
    let room_there = le-ltb room (line_numbers * count_in numbers) s.room_enough in
    joined (λ (r : Row). r.broken ≡ false) (book_rows w readings) (own_rows p numbers room) ((right_book w readings).1 (s.winter, s.book))
    (price_right p s.price, (list, (room_there, tt)))

pub call_right : (w readings p numbers room : ℕ) → is_refusal (first_of (call_rows w readings p numbers room)) ≡ false → RightCall w readings p numbers room
call_right w readings p numbers room e =
    none_right w readings p numbers room (unrefused_none (call_rows w readings p numbers room) (call_numbered w readings p numbers room) e)

module _ (w readings p : ℕ) (l : List ℕ) (room : ℕ) where
  abbrev call : List Row
  call = call_rows w readings p (length l) room

  abbrev notices : List Row
  notices = notices_table (winter_of w) (figures_of Credit) l

  pub table_numbered : Numbered (settlement_table w readings p l room)
  unfolding settlement_table
  table_numbered =
      let own = call_numbered w readings p (length l) room in
      joined (λ (r : Row). 1 ≤ r.number) call notices own (notices_numbered (winter_of w) (figures_of Credit) l)

  -- past a call's own rows those of the notices decide
  pub right_refusal : RightCall w readings p (length l) room → first_of notices ≡ refusal_of w readings p l room
  unfolding refusal_of settlement_table
  right_refusal right = part_goes call notices (right_none w readings p (length l) room right)

  -- a call's refusal decides, else that of the notices
  module _ (number : ℕ) (e : refusal_at number 0 ≡ first_of call) where
    pub refusal_call : (number ≡ 0 → ⊥) → refusal_at number 0 ≡ refusal_of w readings p l room
    unfolding refusal_of settlement_table
    refusal_call f = told_stops call number e notices f

    pub call_is_right : number ≡ 0 → RightCall w readings p (length l) room
    call_is_right z = call_right w readings p (length l) room (rw (← e, z))

    -- in a winter, by its facts
    pub refusal_notices : number ≡ 0 → checked_in (winter_of w) Credit l ≡ refusal_of w readings p l room
    refusal_notices z =
        let right = call_is_right z in
        checked_notices w Credit l (whole_test (length l) right.whole right.few) ∙ right_refusal right

  -- a rule that refuses the call is the refusal, with place 0
  pub call_refuses : (rule : Rule) → refusal_at (rule_number rule) 0 ≡ first_of call
      → verdict_paper {A = ⊤} (Err (at rule 0)) ≡ refusal_of w readings p l room
  call_refuses rule e = let some = number_range rule in refusal_call (rule_number rule) e (λ (z : rule_number rule ≡ 0). omega arith)

  -- a settlement that is not refused: the call is right, and the list keeps every rule of the winter credit
  module _ (e : is_refusal (refusal_of w readings p l room) ≡ false) where
    none_broken : NoneBroken (call ++ notices)
    unfolding refusal_of settlement_table
    none_broken = unrefused_none (call ++ notices) table_numbered e

    pub settlement_right : RightCall w readings p (length l) room
    settlement_right = none_right w readings p (length l) room (left (λ (r : Row). r.broken ≡ false) call notices none_broken)

    pub list_lawful : Lawful w (figures_of Credit) l
    list_lawful =
        let s = settlement_right in
        notices_lawful w (figures_of Credit) l ((winter_range w).1 s.winter) (whole_test (length l) s.whole s.few)
        (right (λ (r : Row). r.broken ≡ false) call notices none_broken)

  -- and the other way round
  pub right_accepted : RightCall w readings p (length l) room → Lawful w (figures_of Credit) l → is_refusal (refusal_of w readings p l room) ≡ false
  unfolding refusal_of settlement_table
  right_accepted s r =
      ap is_refusal
      (none_accepted (call ++ notices)
      (joined (λ (r : Row). r.broken ≡ false) call notices (right_none w readings p (length l) room s) (lawful_notices w (figures_of Credit) l r)))

-- numbers and places are bounded
rows_bounded : (w readings p numbers room : ℕ) → RowsBounded (call_rows w readings p numbers room)
unfolding call_rows
rows_bounded w readings p numbers room =
    joined (λ (r : Row). (r.number ≤ largest_number) × (r.place ≤ largest_place)) (book_rows w readings) (own_rows p numbers room)
    (book_bounded w readings) (omega arith)

pub call_bounded : (w readings p numbers room number : ℕ) → refusal_at number 0 ≡ first_of (call_rows w readings p numbers room) → number ≤ largest_number
call_bounded w readings p numbers room number e =
    (subst Bounded (sym e) (bounded_first (call_rows w readings p numbers room) (rows_bounded w readings p numbers room))).0

pub refusal_bounded : (w readings p : ℕ) (l : List ℕ) (room : ℕ) → Bounded (refusal_of w readings p l room)
unfolding refusal_of settlement_table
refusal_bounded w readings p l room =
    bounded_parts (call w readings p l room) (notices w readings p l room) (rows_bounded w readings p (length l) room)
    (λ none. let s = none_right w readings p (length l) room none in
    notices_bounded w (figures_of Credit) l (whole_test (length l) s.whole s.few))

-- of the output's length only its room for the lines counts
pub refusal_room : (w readings p : ℕ) (l : List ℕ) (a b : ℕ) → line_numbers * count_of l ≤ a → line_numbers * count_of l ≤ b
    → refusal_of w readings p l a ≡ refusal_of w readings p l b
unfolding refusal_of settlement_table call_rows short_output
refusal_room w readings p l a b ha hb = rw (le-ltb a (line_numbers * count_of l) ha, le-ltb b (line_numbers * count_of l) hb)
