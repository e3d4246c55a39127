-- Laws of the settlement on bytes, one for each way out: refused by its lengths, refused by its notices, or settled.
-- Assumes nothing.
use Prim.Native.Nat.{ℕ, ◌*◌, ◌/◌, ◌≤◌}
use mathlib.Core.List.{List}
use mathlib.Core.Path.{◌≡◌, refl, sym, ap, ◌∙◌}
use native.Mathlib.Omega.{arith}
use lib.ListN.{length}
use borrow.Author.Tests.{eq-eqb, ne_eqb}
use Rattle.laws.specs.Bounds.{largest_place}
use Rattle.laws.specs.Table.{accepted, refusal_at, first_of, is_refusal}
use Rattle.credit.proofs.RefusalLaws.{call_right}
use Rattle.credit.proofs.SettlementLaws.{number_is, settled_accepted, settlement_bounded, call_refused, settled_room, written_just}
use Rattle.credit.specs.Lines.{line_numbers, lines_to}
use Rattle.settlement.specs.Events.{event_at}
use Rattle.credit.specs.Refusals.{call_rows}
use Rattle.credit.specs.Settlement.{Settlement, settlement_paper, refused_with, settlement, written}
use Rattle.credit.specs.declared.lines.Totals.{Totals}
use Rattle.notices.specs.Notices.{count_of}
use Rattle.refusals.specs.Packed as one
use Rattle.refusals.specs.Refusals.{rule_number, at}
use Rattle.refusals.specs.declared.refusal.Refusal.{Refusal}
use Rattle.refusals.specs.declared.rule.Rule.{Rule}
use Rattle.std.specs.Prelude.{Result, Ok, Err, IsErrAnd}
use Rattle.wire.proofs.DecodedLaws.{decoded_long}
use Rattle.wire.proofs.WriteLaws.{written_whole}
use Rattle.wire.specs.Bytes.{bytes_written}
use Rattle.wire.specs.Decoded.{number_count, decoded}
use Rattle.boundary.specs.Calls.{packed_settlement, lines_over, settled_over, settle_call, settle_bytes}
use Rattle.boundary.specs.Whole.{JustRoom, numbers_in_whole, whole_call, whole_bytes, SettledBytes}
use Rattle.boundary.proofs.Fronts.{decoded_is, whole_long}
use Rattle.boundary.proofs.Packing.{some, packed_refusal, packed_rule}
use Rattle.boundary.proofs.RightLengths.{RightLengths, right_lengths}

-- the call's refusal by winter, price or lengths
module _ (w p : ℕ) (book list out : List ℕ) (readings numbers : ℕ) (b : readings ≡ number_count (length book)) (l : numbers ≡ number_count (length list)) where
  module _ (rule : Rule) (e : refusal_at (rule_number rule) 0 ≡ first_of (call_rows w readings p numbers (length out / 8))) where
    refusal_is : refused_with (rule_number rule) 0 ≡ settlement w (decoded book) p (decoded list) (length out / 8)
    refusal_is =
        call_refused w p (decoded book) (decoded list) (length out / 8) (rule_number rule) (rw (decoded_long book, decoded_long list, ← b, ← l) e) (some rule)

    refused_bytes_lem : out ≡ settle_bytes w book p list out
    unfolding settle_bytes settled_over
    refused_bytes_lem = rw (← refusal_is, ne_eqb (rule_number rule) 0 (some rule))

    pub refused_settles : (v : Result (Unit {0}) Refusal) → IsErrAnd v (λ x. x ≡ at rule 0)
        → (one.packed v ≡ settle_call w book p list (length out)) × (out ≡ settle_bytes w book p list out)
    unfolding settle_call
    refused_settles v told = (packed_rule v rule told ∙ ap packed_settlement refusal_is, refused_bytes_lem)

  pub right_call : accepted ≡ first_of (call_rows w readings p numbers (length out / 8)) → RightLengths (length book) (length list) (length out)
  right_call e =
      right_lengths w p (length book) (length list) (length out)
      (rw (← b, ← l) (call_right w readings p numbers (length out / 8) (ap is_refusal (sym e))))

-- on bytes of the right lengths it is the settlement of their whole numbers
module _ (w p : ℕ) (book list out : List ℕ) (r : RightLengths (length book) (length list) (length out)) where
  room_is : settlement w (numbers_in_whole book) p (numbers_in_whole list) (line_numbers * count_of (numbers_in_whole list))
      ≡ settlement w (decoded book) p (decoded list) (length out / 8)
  room_is =
      rw (decoded_is book r.book_whole, decoded_is list r.list_whole)
      (settled_room w p (numbers_in_whole book) (numbers_in_whole list) (line_numbers * count_of (numbers_in_whole list)) (length out / 8) (omega arith)
      (rw (whole_long list) r.lines_fit))

  whole_call_lem : whole_call w (numbers_in_whole book) p (numbers_in_whole list) ≡ settle_call w book p list (length out)
  unfolding whole_call settle_call
  whole_call_lem = ap packed_settlement room_is

  whole_bytes_lem : whole_bytes w (numbers_in_whole book) p (numbers_in_whole list) out ≡ settle_bytes w book p list out
  unfolding whole_bytes settle_bytes settled_over
  whole_bytes_lem = rw (room_is, decoded_is book r.book_whole, decoded_is list r.list_whole)

  pub whole_settles : {answer : ℕ} {after : List ℕ} → SettledBytes w (numbers_in_whole book) p (numbers_in_whole list) out answer after
      → (answer ≡ settle_call w book p list (length out)) × (after ≡ settle_bytes w book p list out)
  whole_settles s = (s.answer_is ∙ whole_call_lem, s.bytes_are ∙ whole_bytes_lem)

-- the settlement s of numbers into lines, for which there is just the room
module _ (w p : ℕ) (book list lines out : List ℕ) (room : JustRoom list (length lines) (length out)) (s : Settlement)
    (e : s ≡ settlement w book p list (length lines)) where
  just_is : s ≡ settlement w book p list (line_numbers * count_of list)
  just_is = e ∙ ap (settlement w book p list) room.just

  just_call : packed_settlement s ≡ whole_call w book p list
  unfolding whole_call
  just_call = ap packed_settlement just_is

  just_untouched : (s.number ≡ 0 → ⊥) → out ≡ whole_bytes w book p list out
  unfolding whole_bytes settled_over
  just_untouched f = rw (← just_is, ne_eqb s.number 0 f)

  untouched : {answer : ℕ} → (s.number ≡ 0 → ⊥) → answer ≡ packed_settlement s → SettledBytes w book p list out answer out
  untouched f q = record { answer_is = q ∙ just_call; bytes_are = just_untouched f }

  module _ (z : s.number ≡ 0) where
    none : (settlement w book p list (length lines)).number ≡ 0
    none = ap (λ (s : Settlement). s.number) (sym e) ∙ z

    just_accepted : 0 ≡ whole_call w book p list
    just_accepted =
        ap packed_settlement (sym (e ∙ settled_accepted w p book list (length lines) (number_is w p book list (length lines) none))) ∙ just_call

    module _ {lines' out' : List ℕ} (l : lines' ≡ written w book p list lines) (k : length lines' ≡ length lines) (o : out' ≡ bytes_written lines' out) where
      just_written : out' ≡ whole_bytes w book p list out
      unfolding whole_bytes settled_over
      just_written =
          let are : lines' ≡ lines_to p (event_at w book list) (count_of list) = l ∙ written_just w p book list lines room.just none in
          let long : length lines' ≡ line_numbers * count_of list = k ∙ room.just in
          let over : out' ≡ lines_over w book p list out = o ∙ written_whole lines' out (omega (arith, room.bytes_fit)) ∙ rw (long, are) in
          rw (← just_is, eq-eqb s.number 0 z) over

      written_lem : SettledBytes w book p list out 0 out'
      written_lem = record { answer_is = just_accepted; bytes_are = just_written }

-- and so the verdict of `settle` on the numbers, which `?` hands on
module _ (w p : ℕ) (book list lines out : List ℕ) (just : length lines ≡ line_numbers * count_of list) (fits : 8 * length lines ≤ length out) where
  room : JustRoom list (length lines) (length out)
  room = record { just = just; bytes_fit = fits }

  pub just_refused : (v : Result (Unit {0}) Refusal) (r : Refusal) → IsErrAnd v (λ x. x ≡ r)
      → settlement_paper (Err r) ≡ settlement w book p list (length lines) → SettledBytes w book p list out (one.packed v) out
  just_refused v r told e =
      let bounded : r.place ≤ largest_place = rw (← e) at (settlement_bounded w p book list (length lines)).1 in
      untouched w p book list lines out room (settlement_paper (Err r)) e (some r.rule) (packed_refusal v r told bounded)

  pub just_settled : (totals : Totals) → settlement_paper (Ok totals) ≡ settlement w book p list (length lines) → {lines' out' : List ℕ}
      → lines' ≡ written w book p list lines → length lines' ≡ length lines → out' ≡ bytes_written lines' out → SettledBytes w book p list out 0 out'
  just_settled totals e l k o = written_lem w p book list lines out room (settlement_paper (Ok totals)) e refl l k o
