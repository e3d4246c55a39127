-- Laws of the energies on bytes, one for each way out: refused by the lengths, refused by the notices, or the lines.
-- Assumes nothing.
use Prim.Native.Nat.{ℕ, ◌*◌, ◌/◌, ◌≤◌}
use mathlib.Core.List.{List}
use mathlib.Core.Path.{◌≡◌, refl, sym, ap, ◌∙◌}
use native.Mathlib.Omega.{arith}
use lib.ListN.{length}
use borrow.Author.Tests.{eq-eqb, ne_eqb}
use Rattle.laws.specs.Bounds.{largest_place}
use Rattle.laws.specs.Table.{accepted, refusal_at, first_of, is_refusal}
use Rattle.notices.specs.Notices.{count_of}
use Rattle.settlement.proofs.CallLaws.{call_right}
use Rattle.settlement.proofs.EnergiesLaws.{number_is, answer_accepted, answer_bounded, call_refused, answer_room_lem, written_just}
use Rattle.settlement.specs.Energies.{Spared, spared_paper, refused_with, energies_of, energies_written}
use Rattle.settlement.specs.Events.{event_at}
use Rattle.settlement.specs.Lines.{line_numbers, lines_to}
use Rattle.settlement.specs.Refusals.{call_rows}
use Rattle.refusals.specs.Packed as one
use Rattle.refusals.specs.Refusals.{rule_number, at}
use Rattle.refusals.specs.declared.refusal.Refusal.{Refusal}
use Rattle.refusals.specs.declared.rule.Rule.{Rule}
use Rattle.std.specs.Prelude.{Result, Ok, Err, IsErrAnd}
use Rattle.wire.proofs.DecodedLaws.{decoded_long}
use Rattle.wire.proofs.WriteLaws.{written_whole}
use Rattle.wire.specs.Bytes.{bytes_written}
use Rattle.wire.specs.Decoded.{number_count, decoded}
use Rattle.boundary.specs.EnergiesCall.{packed_spared, energy_lines_over, energies_over, energies_call, energies_bytes}
use Rattle.boundary.specs.EnergiesWhole.{EnergiesRoom, whole_energies, whole_energies_bytes, SparedBytes}
use Rattle.boundary.specs.Whole.{numbers_in_whole}
use Rattle.boundary.proofs.Fronts.{decoded_is, whole_long}
use Rattle.boundary.proofs.Packing.{some, packed_refusal, packed_rule}
use Rattle.boundary.proofs.RightEnergies.{RightEnergies, right_energies}

-- the call's refusal by winter or lengths
module _ (w : ℕ) (book list out : List ℕ) (readings numbers : ℕ) (b : readings ≡ number_count (length book)) (l : numbers ≡ number_count (length list)) where
  module _ (rule : Rule) (e : refusal_at (rule_number rule) 0 ≡ first_of (call_rows w readings numbers (length out / 8))) where
    refusal_is : refused_with (rule_number rule) 0 ≡ energies_of w (decoded book) (decoded list) (length out / 8)
    refusal_is =
        call_refused w (decoded book) (decoded list) (length out / 8) (rule_number rule) (rw (decoded_long book, decoded_long list, ← b, ← l) e) (some rule)

    refused_bytes_lem : out ≡ energies_bytes w book list out
    unfolding energies_bytes energies_over
    refused_bytes_lem = rw (← refusal_is, ne_eqb (rule_number rule) 0 (some rule))

    pub refused_tells : (v : Result (Unit {0}) Refusal) → IsErrAnd v (λ x. x ≡ at rule 0)
        → (one.packed v ≡ energies_call w book list (length out)) × (out ≡ energies_bytes w book list out)
    unfolding energies_call
    refused_tells v told = (packed_rule v rule told ∙ ap packed_spared refusal_is, refused_bytes_lem)

  pub right_call : accepted ≡ first_of (call_rows w readings numbers (length out / 8)) → RightEnergies (length book) (length list) (length out)
  right_call e =
      right_energies w (length book) (length list) (length out)
      (rw (← b, ← l) (call_right w readings numbers (length out / 8) (ap is_refusal (sym e))))

-- on bytes of the right lengths they are those of their whole numbers
module _ (w : ℕ) (book list out : List ℕ) (r : RightEnergies (length book) (length list) (length out)) where
  room_is : energies_of w (numbers_in_whole book) (numbers_in_whole list) (line_numbers * count_of (numbers_in_whole list))
      ≡ energies_of w (decoded book) (decoded list) (length out / 8)
  room_is =
      rw (decoded_is book r.book_whole, decoded_is list r.list_whole)
      (answer_room_lem w (numbers_in_whole book) (numbers_in_whole list) (line_numbers * count_of (numbers_in_whole list)) (length out / 8) (omega arith)
      (rw (whole_long list) r.lines_fit))

  whole_call_lem : whole_energies w (numbers_in_whole book) (numbers_in_whole list) ≡ energies_call w book list (length out)
  unfolding whole_energies energies_call
  whole_call_lem = ap packed_spared room_is

  whole_bytes_lem : whole_energies_bytes w (numbers_in_whole book) (numbers_in_whole list) out ≡ energies_bytes w book list out
  unfolding whole_energies_bytes energies_bytes energies_over
  whole_bytes_lem = rw (room_is, decoded_is book r.book_whole, decoded_is list r.list_whole)

  pub whole_tells : {answer : ℕ} {after : List ℕ} → SparedBytes w (numbers_in_whole book) (numbers_in_whole list) out answer after
      → (answer ≡ energies_call w book list (length out)) × (after ≡ energies_bytes w book list out)
  whole_tells s = (s.answer_is ∙ whole_call_lem, s.bytes_are ∙ whole_bytes_lem)

-- the energies s of numbers, with lines for which there is just the room
module _ (w : ℕ) (book list lines out : List ℕ) (room : EnergiesRoom list (length lines) (length out)) (s : Spared)
    (e : s ≡ energies_of w book list (length lines)) where
  just_is : s ≡ energies_of w book list (line_numbers * count_of list)
  just_is = e ∙ ap (energies_of w book list) room.just

  just_call : packed_spared s ≡ whole_energies w book list
  unfolding whole_energies
  just_call = ap packed_spared just_is

  just_untouched : (s.number ≡ 0 → ⊥) → out ≡ whole_energies_bytes w book list out
  unfolding whole_energies_bytes energies_over
  just_untouched f = rw (← just_is, ne_eqb s.number 0 f)

  untouched : {answer : ℕ} → (s.number ≡ 0 → ⊥) → answer ≡ packed_spared s → SparedBytes w book list out answer out
  untouched f q = record { answer_is = q ∙ just_call; bytes_are = just_untouched f }

  module _ (z : s.number ≡ 0) where
    none : (energies_of w book list (length lines)).number ≡ 0
    none = ap (λ (s : Spared). s.number) (sym e) ∙ z

    just_accepted : 0 ≡ whole_energies w book list
    just_accepted =
        ap packed_spared (sym (e ∙ answer_accepted w book list (length lines) (number_is w book list (length lines) none))) ∙ just_call

    module _ {lines' out' : List ℕ} (l : lines' ≡ energies_written w book list lines) (k : length lines' ≡ length lines)
        (o : out' ≡ bytes_written lines' out) where
      just_written : out' ≡ whole_energies_bytes w book list out
      unfolding whole_energies_bytes energies_over
      just_written =
          let are : lines' ≡ lines_to (event_at w book list) (count_of list) = l ∙ written_just w book list lines room.just none in
          let long : length lines' ≡ line_numbers * count_of list = k ∙ room.just in
          let over : out' ≡ energy_lines_over w book list out = o ∙ written_whole lines' out (omega (arith, room.bytes_fit)) ∙ rw (long, are) in
          rw (← just_is, eq-eqb s.number 0 z) over

      written_lem : SparedBytes w book list out 0 out'
      written_lem = record { answer_is = just_accepted; bytes_are = just_written }

-- and so the verdict of `energies` on the numbers, which `?` hands on
module _ (w : ℕ) (book list lines out : List ℕ) (just : length lines ≡ line_numbers * count_of list) (fits : 8 * length lines ≤ length out) where
  room : EnergiesRoom list (length lines) (length out)
  room = record { just = just; bytes_fit = fits }

  pub just_refused : (v : Result (Unit {0}) Refusal) (r : Refusal) → IsErrAnd v (λ x. x ≡ r)
      → spared_paper (Err r) ≡ energies_of w book list (length lines) → SparedBytes w book list out (one.packed v) out
  just_refused v r told e =
      let bounded : r.place ≤ largest_place = rw (← e) at (answer_bounded w book list (length lines)).1 in
      untouched w book list lines out room (spared_paper (Err r)) e (some r.rule) (packed_refusal v r told bounded)

  pub just_lines : (total : ℕ) → spared_paper (Ok total) ≡ energies_of w book list (length lines) → {lines' out' : List ℕ}
      → lines' ≡ energies_written w book list lines → length lines' ≡ length lines → out' ≡ bytes_written lines' out → SparedBytes w book list out 0 out'
  just_lines total e l k o = written_lem w book list lines out room (spared_paper (Ok total)) e refl l k o
