-- Laws of the medium-power settlement on bytes, one for each way out: refused by its lengths, refused by its references or notices, or settled.
-- Assumes nothing.
use Prim.Native.Nat.{ℕ, ◌*◌, ◌/◌, ◌≤◌}
use mathlib.Core.List.{List, [], ◌∷◌}
use mathlib.Core.Path.{◌≡◌, refl, sym, ap, ◌∙◌}
use native.Mathlib.Omega.{arith}
use lib.ListN.{length}
use borrow.Author.Tests.{eq-eqb, ne_eqb}
use Rattle.laws.specs.Bounds.{largest_place}
use Rattle.laws.specs.Table.{accepted, refusal_at, first_of, is_refusal}
use Rattle.notices.specs.Notices.{count_of}
use Rattle.power.proofs.CallLaws.{call_right}
use Rattle.power.proofs.SettlementLaws.{number_is, settled_accepted, settlement_bounded, call_refused, settled_room, written_just}
use Rattle.power.specs.Lines.{power_line_numbers, power_lines_to}
use Rattle.power.specs.Reduced.{reduced_at}
use Rattle.power.specs.Refusals.{total_numbers, power_call_rows}
use Rattle.power.specs.Settlement.{PowerSettlement, power_paper, power_refused_with, power_settlement, power_written}
use Rattle.power.specs.declared.call.PowerTotals.{PowerTotals}
use Rattle.refusals.specs.Packed as one
use Rattle.refusals.specs.Refusals.{rule_number, at}
use Rattle.refusals.specs.declared.refusal.Refusal.{Refusal}
use Rattle.refusals.specs.declared.rule.Rule.{Rule}
use Rattle.std.specs.Prelude.{Result, Ok, Err, IsErrAnd}
use Rattle.wire.proofs.DecodedLaws.{decoded_long}
use Rattle.wire.proofs.WriteLaws.{written_whole}
use Rattle.wire.specs.Bytes.{bytes_written}
use Rattle.wire.specs.Decoded.{number_count, decoded}
use Rattle.power_boundary.specs.PowerCalls.{packed_power, power_lines_over, totals_in, totals_over, power_over, power_totals, power_settled}
use Rattle.power_boundary.specs.PowerCalls.{power_call, power_bytes, total_bytes}
use Rattle.power_boundary.specs.PowerWhole.{PowerRoom, whole_power, PowerSettled}
use Rattle.boundary.specs.Whole.{numbers_in_whole}
use Rattle.boundary.proofs.Fronts.{decoded_is, whole_long}
use Rattle.boundary.proofs.Packing.{some, packed_refusal, packed_rule}
use Rattle.power_boundary.proofs.PowerRight.{PowerRight, power_right}

-- what is left where a settlement has been refused
module _ (s : PowerSettlement) (f : s.number ≡ 0 → ⊥) where
  pub over_refused : (book list references out : List ℕ) → out ≡ power_over s book list references out
  unfolding power_over
  over_refused book list references out = rw (ne_eqb s.number 0 f)

  pub totals_refused : (totals : List ℕ) → totals ≡ power_totals s totals
  unfolding power_totals
  totals_refused totals = rw (ne_eqb s.number 0 f)

-- and where it has been accepted
module _ (s : PowerSettlement) (z : s.number ≡ 0) where
  pub over_accepted : (book list references out : List ℕ) → power_lines_over book list references out ≡ power_over s book list references out
  unfolding power_over
  over_accepted book list references out = rw (eq-eqb s.number 0 z)

  pub totals_accepted : (totals : List ℕ) → totals_over s totals ≡ power_totals s totals
  unfolding power_totals
  totals_accepted totals = rw (eq-eqb s.number 0 z)

-- what the call comes to: its answer and the two outputs
pub record PowerCalled (w : ℕ) (book list references out totals : List ℕ) (answer : ℕ) (after after_totals : List ℕ) : Type 0 where
  pub answer_is : answer ≡ power_call w book list references (length out) (length totals)
  pub bytes_are : after ≡ power_bytes w book list references out totals
  pub totals_are : after_totals ≡ total_bytes w book list references out totals

-- by a settlement s that is the call's
module _ (w : ℕ) (book list references out totals : List ℕ) (s : PowerSettlement)
    (is : s ≡ power_settled w book list references (length out) (length totals)) where
  pub called_by : {answer : ℕ} {after after_totals : List ℕ} → answer ≡ packed_power s
      → after ≡ power_over s (decoded book) (decoded list) (decoded references) out → after_totals ≡ power_totals s totals
      → PowerCalled w book list references out totals answer after after_totals
  unfolding power_call power_bytes total_bytes
  called_by a o t = record { answer_is = a ∙ ap packed_power is; bytes_are = o ∙ rw is; totals_are = t ∙ rw is }

-- the call's refusal by winter or lengths
module _ (w : ℕ) (book list references out totals : List ℕ) (readings numbers given : ℕ) (b : readings ≡ number_count (length book))
    (l : numbers ≡ number_count (length list)) (r : given ≡ number_count (length references)) where
  module _ (rule : Rule) (e : refusal_at (rule_number rule) 0 ≡ first_of (power_call_rows w readings numbers (length out / 8) (length totals / 8) given)) where
    abbrev refused : PowerSettlement
    refused = power_refused_with (rule_number rule) 0

    refusal_is : refused ≡ power_settled w book list references (length out) (length totals)
    refusal_is =
        call_refused w (decoded book) (decoded list) (decoded references) (length out / 8) (length totals / 8) (rule_number rule)
        (rw (decoded_long book, decoded_long list, decoded_long references, ← b, ← l, ← r) e) (some rule)

    pub refused_power : (v : Result (Unit {0}) Refusal) → IsErrAnd v (λ x. x ≡ at rule 0)
        → PowerCalled w book list references out totals (one.packed v) out totals
    refused_power v told =
        called_by w book list references out totals refused refusal_is (packed_rule v rule told)
        (over_refused refused (some rule) (decoded book) (decoded list) (decoded references) out)
        (totals_refused refused (some rule) totals)

  pub right_power : accepted ≡ first_of (power_call_rows w readings numbers (length out / 8) (length totals / 8) given)
      → PowerRight (length book) (length list) (length references) (length out) (length totals)
  right_power e =
      power_right w (length book) (length list) (length references) (length out) (length totals)
      (rw (← b, ← l, ← r) (call_right w readings numbers (length out / 8) (length totals / 8) given (ap is_refusal (sym e))))

-- on bytes of the right lengths it is the settlement of their whole numbers
module _ (w : ℕ) (book list references out totals : List ℕ)
    (r : PowerRight (length book) (length list) (length references) (length out) (length totals)) where
  whole_is : whole_power w (numbers_in_whole book) (numbers_in_whole list) (numbers_in_whole references)
      ≡ power_settled w book list references (length out) (length totals)
  unfolding whole_power
  whole_is =
      rw (decoded_is book r.book_whole, decoded_is list r.list_whole, decoded_is references r.references_whole)
      (settled_room w (numbers_in_whole book) (numbers_in_whole list) (numbers_in_whole references)
      (power_line_numbers * count_of (numbers_in_whole list)) total_numbers
      (length out / 8) (length totals / 8) (omega arith) (rw (whole_long list) r.lines_fit) (omega arith) (omega (arith, r.lengths.totals_for)))

  pub whole_power_lem : {answer : ℕ} {after after_totals : List ℕ}
      → PowerSettled w (numbers_in_whole book) (numbers_in_whole list) (numbers_in_whole references) out totals answer after after_totals
      → PowerCalled w book list references out totals answer after after_totals
  whole_power_lem s =
      called_by w book list references out totals (whole_power w (numbers_in_whole book) (numbers_in_whole list) (numbers_in_whole references)) whole_is
      s.answer_is
      (rw (decoded_is book r.book_whole, decoded_is list r.list_whole, decoded_is references r.references_whole) s.bytes_are)
      s.totals_are

-- the settlement s of numbers into lines, for which there is just the room
module _ (w : ℕ) (book list references lines out totals : List ℕ) (room : PowerRoom list (length lines) (length out) (length totals))
    (s : PowerSettlement) (e : s ≡ power_settlement w book list references (length lines) total_numbers) where
  just_is : s ≡ whole_power w book list references
  unfolding whole_power
  just_is = e ∙ ap (λ (n : ℕ). power_settlement w book list references n total_numbers) room.just

  untouched : {answer : ℕ} → (s.number ≡ 0 → ⊥) → answer ≡ packed_power s → PowerSettled w book list references out totals answer out totals
  untouched f q =
      record {
        answer_is = q ∙ ap packed_power just_is;
        bytes_are = over_refused s f book list references out ∙ rw just_is;
        totals_are = totals_refused s f totals ∙ rw just_is;
      }

  module _ (z : s.number ≡ 0) where
    none : (power_settlement w book list references (length lines) total_numbers).number ≡ 0
    none = ap (λ (s : PowerSettlement). s.number) (sym e) ∙ z

    accepted_so : 0 ≡ packed_power s
    accepted_so =
        ap packed_power
        (sym (e ∙ settled_accepted w book list references (length lines) total_numbers (number_is w book list references (length lines) total_numbers none)))

    module _ {lines' out' totals' : List ℕ} (l : lines' ≡ power_written w book list references lines total_numbers) (k : length lines' ≡ length lines)
        (o : out' ≡ bytes_written lines' out) (t : totals' ≡ bytes_written (totals_in s) totals) where
      lines_over_lem : out' ≡ power_lines_over book list references out
      lines_over_lem =
          let are : lines' ≡ power_lines_to (reduced_at book list references) (count_of list) =
          l ∙ written_just w book list references lines total_numbers room.just none in
          let long : length lines' ≡ power_line_numbers * count_of list = k ∙ room.just in
          o ∙ written_whole lines' out (omega (arith, room.bytes_fit)) ∙ rw (long, are)

      written_lem : PowerSettled w book list references out totals 0 out' totals'
      written_lem =
          record {
            answer_is = accepted_so ∙ ap packed_power just_is;
            bytes_are = lines_over_lem ∙ over_accepted s z book list references out ∙ rw just_is;
            totals_are = t ∙ written_whole (totals_in s) totals room.totals_fit ∙ totals_accepted s z totals ∙ rw just_is;
          }

-- and so the verdict of `settle` on the numbers, which `?` hands on
module _ (w : ℕ) (book list references lines out totals : List ℕ) (just : length lines ≡ power_line_numbers * count_of list)
    (fits : 8 * length lines ≤ length out) (totals_fit : 8 * total_numbers ≤ length totals) where
  room : PowerRoom list (length lines) (length out) (length totals)
  room = record { just = just; bytes_fit = fits; totals_fit = totals_fit }

  pub just_refused : (v : Result (Unit {0}) Refusal) (r : Refusal) → IsErrAnd v (λ x. x ≡ r)
      → power_paper (Err r) ≡ power_settlement w book list references (length lines) total_numbers
      → PowerSettled w book list references out totals (one.packed v) out totals
  just_refused v r told e =
      let bounded : r.place ≤ largest_place = rw (← e) at (settlement_bounded w book list references (length lines) total_numbers).1 in
      untouched w book list references lines out totals room (power_paper (Err r)) e (some r.rule) (packed_refusal v r told bounded)

  pub just_settled : (t : PowerTotals) → power_paper (Ok t) ≡ power_settlement w book list references (length lines) total_numbers
      → {lines' out' totals' : List ℕ} → lines' ≡ power_written w book list references lines total_numbers → length lines' ≡ length lines
      → out' ≡ bytes_written lines' out → totals' ≡ bytes_written (t.sum ∷ t.settled ∷ t.cents ∷ []) totals
      → PowerSettled w book list references out totals 0 out' totals'
  just_settled t e l k o u = written_lem w book list references lines out totals room (power_paper (Ok t)) e refl l k o u
