-- Laws of the cents on bytes, one for each way out: refused by price or lengths, refused by an energy, or the cents.
-- Assumes nothing.
use Prim.Native.Nat.{ℕ, ◌*◌, ◌/◌, ◌%◌, ◌≤◌}
use mathlib.Core.List.{List}
use mathlib.Core.Path.{◌≡◌, refl, sym, ap, ◌∙◌}
use native.Mathlib.Omega.{arith}
use lib.ListN.{length}
use borrow.Author.Tests.{eq-eqb, ne_eqb}
use Rattle.laws.specs.Bounds.{largest_place}
use Rattle.laws.specs.Table.{accepted, refusal_at, first_of}
use Rattle.money.proofs.PricingLaws.{number_is, answer_accepted, answer_bounded, answer_room_lem, refused_answer, written_just}
use Rattle.money.proofs.RefusalLaws.{call_right, call_refuses}
use Rattle.money.specs.Cents.{cents_to}
use Rattle.money.specs.Pricing.{Priced, priced_paper, refused_with, cents_of, cents_written}
use Rattle.money.specs.Refusals.{price_rows}
use Rattle.refusals.specs.Packed as one
use Rattle.refusals.specs.Refusals.{rule_number, at}
use Rattle.refusals.specs.declared.refusal.Refusal.{Refusal}
use Rattle.refusals.specs.declared.rule.Rule.{Rule}
use Rattle.std.specs.Prelude.{Result, Ok, Err, IsErrAnd}
use Rattle.wire.proofs.DecodedLaws.{decoded_long, whole_numbers}
use Rattle.wire.proofs.WriteLaws.{written_whole}
use Rattle.wire.specs.Bytes.{bytes_over, bytes_written}
use Rattle.wire.specs.Decoded.{number_count, decoded}
use Rattle.boundary.specs.CentsCall.{packed_priced, cents_over, cents_call, cents_bytes}
use Rattle.boundary.specs.CentsWhole.{CentsLengths, CentsRoom, PricedBytes}
use Rattle.boundary.specs.Whole.{numbers_in_whole}
use Rattle.boundary.proofs.Fronts.{decoded_is, whole_long}
use Rattle.boundary.proofs.Packing.{some, packed_refusal, packed_rule}

-- lengths that the call does not refuse
pub record RightBytes (energies out : ℕ) : Type 0 where
  pub whole : energies % 4 ≡ 0
  pub cents_fit : energies / 4 ≤ out / 8
  pub lengths : CentsLengths energies out

-- the call's refusal by price or lengths
module _ (p : ℕ) (energies out : List ℕ) (count : ℕ) (c : count ≡ number_count (length energies)) where
  module _ (rule : Rule) (e : refusal_at (rule_number rule) 0 ≡ first_of (price_rows p count (length out / 8))) where
    refusal_is : refused_with (rule_number rule) 0 ≡ cents_of p (decoded energies) (length out / 8)
    refusal_is =
        refused_answer p (decoded energies) (length out / 8) (at rule 0)
        (call_refuses p (decoded energies) (length out / 8) rule (rw (decoded_long energies, ← c) e))

    refused_bytes_lem : out ≡ cents_bytes p energies out
    unfolding cents_bytes cents_over
    refused_bytes_lem = rw (← refusal_is, ne_eqb (rule_number rule) 0 (some rule))

    pub refused_tells : (v : Result (Unit {0}) Refusal) → IsErrAnd v (λ x. x ≡ at rule 0)
        → (one.packed v ≡ cents_call p energies (length out)) × (out ≡ cents_bytes p energies out)
    unfolding cents_call
    refused_tells v told = (packed_rule v rule told ∙ ap packed_priced refusal_is, refused_bytes_lem)

  pub right_call : accepted ≡ first_of (price_rows p count (length out / 8)) → RightBytes (length energies) (length out)
  right_call e =
      let right = call_right p count (length out / 8) 0 e refl in
      let few = right.few in
      let whole = whole_numbers (length energies) (omega (arith, c)) in
      let fits : length energies / 4 ≤ length out / 8 = omega (arith, c, whole.count, right.room_enough) in
      record {
        whole = whole.none_over;
        cents_fit = fits;
        lengths = record { few = omega (arith, c, whole.count); room_enough = omega arith };
      }

-- on bytes of the right lengths they are those of their whole numbers
module _ (p : ℕ) (energies out : List ℕ) (r : RightBytes (length energies) (length out)) where
  room_is : cents_of p (numbers_in_whole energies) (length (numbers_in_whole energies)) ≡ cents_of p (decoded energies) (length out / 8)
  room_is =
      rw (decoded_is energies r.whole)
      (answer_room_lem p (numbers_in_whole energies) (length (numbers_in_whole energies)) (length out / 8)
      (omega arith) (omega (arith, whole_long energies, r.cents_fit)))

  whole_call_lem : packed_priced (cents_of p (numbers_in_whole energies) (length (numbers_in_whole energies))) ≡ cents_call p energies (length out)
  unfolding cents_call
  whole_call_lem = ap packed_priced room_is

  whole_bytes_lem : cents_over p (numbers_in_whole energies) (length (numbers_in_whole energies)) out ≡ cents_bytes p energies out
  unfolding cents_bytes cents_over
  whole_bytes_lem = rw (room_is, decoded_is energies r.whole)

  pub whole_tells : {answer : ℕ} {after : List ℕ} → PricedBytes p (numbers_in_whole energies) out answer after
      → (answer ≡ cents_call p energies (length out)) × (after ≡ cents_bytes p energies out)
  whole_tells s = (s.answer_is ∙ whole_call_lem, s.bytes_are ∙ whole_bytes_lem)

-- the answer s to numbers, with cents for which there is just the room
module _ (p : ℕ) (energies cents out : List ℕ) (room : CentsRoom energies (length cents) (length out)) (s : Priced)
    (e : s ≡ cents_of p energies (length cents)) where
  just_is : s ≡ cents_of p energies (length energies)
  just_is = e ∙ ap (cents_of p energies) room.just

  just_untouched : (s.number ≡ 0 → ⊥) → out ≡ cents_over p energies (length energies) out
  unfolding cents_over
  just_untouched f = rw (← just_is, ne_eqb s.number 0 f)

  untouched : {answer : ℕ} → (s.number ≡ 0 → ⊥) → answer ≡ packed_priced s → PricedBytes p energies out answer out
  untouched f q = record { answer_is = q ∙ ap packed_priced just_is; bytes_are = just_untouched f }

  module _ (z : s.number ≡ 0) where
    none : (cents_of p energies (length cents)).number ≡ 0
    none = ap (λ (s : Priced). s.number) (sym e) ∙ z

    just_accepted : 0 ≡ packed_priced (cents_of p energies (length energies))
    just_accepted =
        ap packed_priced (sym (e ∙ answer_accepted p energies (length cents) (number_is p energies (length cents) none))) ∙ ap packed_priced just_is

    module _ {cents' out' : List ℕ} (l : cents' ≡ cents_written p energies cents) (k : length cents' ≡ length cents) (o : out' ≡ bytes_written cents' out) where
      just_written : out' ≡ cents_over p energies (length energies) out
      unfolding cents_over
      just_written =
          let are : cents' ≡ cents_to p energies = l ∙ written_just p energies cents room.just none in
          let long : length cents' ≡ length energies = k ∙ room.just in
          let over : out' ≡ bytes_over (cents_to p energies) (length energies) out =
          o ∙ written_whole cents' out (omega (arith, k, room.bytes_fit)) ∙ rw (long, are) in
          rw (← just_is, eq-eqb s.number 0 z) over

      written : PricedBytes p energies out 0 out'
      written = record { answer_is = just_accepted; bytes_are = just_written }

-- and so the verdict of `cents` on the numbers, which `?` hands on
module _ (p : ℕ) (energies cents out : List ℕ) (just : length cents ≡ length energies) (fits : 8 * length energies ≤ length out) where
  room : CentsRoom energies (length cents) (length out)
  room = record { just = just; bytes_fit = omega (arith, just, fits) }

  pub just_refused : (v : Result (Unit {0}) Refusal) (r : Refusal) → IsErrAnd v (λ x. x ≡ r) → priced_paper (Err r) ≡ cents_of p energies (length cents)
      → PricedBytes p energies out (one.packed v) out
  just_refused v r told e =
      let bounded : r.place ≤ largest_place = rw (← e) at (answer_bounded p energies (length cents)).1 in
      untouched p energies cents out room (priced_paper (Err r)) e (some r.rule) (packed_refusal v r told bounded)

  pub just_cents : (total : ℕ) → priced_paper (Ok total) ≡ cents_of p energies (length cents) → {cents' out' : List ℕ}
      → cents' ≡ cents_written p energies cents → length cents' ≡ length cents → out' ≡ bytes_written cents' out → PricedBytes p energies out 0 out'
  just_cents total e l k o = written p energies cents out room (priced_paper (Ok total)) e refl l k o
