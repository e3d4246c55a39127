-- Laws of the settlement, one for each way out: refused, with nothing written, or settled by the lines and their totals.
-- Assumes nothing.
use Prim.Native.Nat.{ℕ, ◌*◌, ◌≤◌}
use mathlib.Core.Bool.{Bool, true, false, true≢false}
use mathlib.Core.List.{List, append-nil}
use mathlib.Core.Path.{◌≡◌, refl, sym, ap, ◌∙◌}
use native.Mathlib.Nat.{le_of_eq}
use native.Mathlib.Omega.{arith}
use lib.ListN.{length, get_or, drop_of_length-le}
use borrow.Author.Tests.{ne_eqb}
use Rattle.laws.specs.Answer.{Answer}
use Rattle.laws.specs.Table.{refusal_at, first_of, is_refusal}
use Rattle.laws.specs.Bounds.{largest_number, largest_place}
use Rattle.notices.specs.Notices.{count_of}
use Rattle.refusals.proofs.RuleNumbers.{refused_is}
use Rattle.refusals.specs.Refusals.{verdict_paper}
use Rattle.refusals.specs.declared.refusal.Refusal.{Refusal}
use Rattle.std.specs.Prelude.{Err, ⊤}
use Rattle.settlement.specs.Events.{event_at}
use Rattle.credit.specs.Lines.{line_numbers, lines_to}
use Rattle.credit.specs.Refusals.{call_rows, refusal_of}
use Rattle.credit.specs.Settlement.{Settlement, settlement_paper, refused_with, totals_of, lines_in, settled_by, written_by, settlement, written}
use Rattle.credit.proofs.RefusalLaws.{refusal_call, refusal_room, refusal_bounded}

module _ (w p : ℕ) (book l : List ℕ) (room : ℕ) where
  abbrev refusal : Answer
  refusal = refusal_of w (length book) p l room

  pub settled_by_lem : is_refusal refusal ≡ true → settlement w book p l room ≡ refused_with refusal.number (get_or refusal.values 0 0)
  unfolding settlement settled_by
  settled_by_lem e = rw e

  pub settled_accepted : is_refusal refusal ≡ false → settlement w book p l room ≡ totals_of p (event_at w book l) (count_of l)
  unfolding settlement settled_by
  settled_accepted e = rw e

  -- an answer with number 0 is no refusal
  pub number_is : (settlement w book p l room).number ≡ 0 → is_refusal refusal ≡ false
  number_is e = by (is_refusal refusal) refl
    where
      by : (b : Bool) → is_refusal refusal ≡ b → is_refusal refusal ≡ false
      by true q = let z : refusal.number ≡ 0 = ap (λ (s : Settlement). s.number) (sym (settled_by_lem q)) ∙ e in absurd (true≢false (sym q ∙ rw z refl))
      by false q = q

  -- numbers and places are bounded
  pub settlement_bounded : ((settlement w book p l room).number ≤ largest_number) × ((settlement w book p l room).place ≤ largest_place)
  settlement_bounded = by (is_refusal refusal) refl
    where
      by : (b : Bool) → is_refusal refusal ≡ b → ((settlement w book p l room).number ≤ largest_number) × ((settlement w book p l room).place ≤ largest_place)
      by true q = rw (settled_by_lem q) (refusal_bounded w (length book) p l room)
      by false q = rw (settled_accepted q) (omega arith, omega arith)

  -- what is refused is answered by the refusal
  module _ (r : Refusal) (said : verdict_paper {A = ⊤} (Err r) ≡ refusal) where
    pub refused_lem : is_refusal refusal ≡ true
    refused_lem = rw (← said) (refused_is r.rule r.place)

    pub refused_answer : settlement_paper (Err r) ≡ settlement w book p l room
    refused_answer = sym (settled_by_lem refused_lem ∙ rw (← said) refl)

  -- a call that its winter, price or lengths refuse
  pub call_refused : (number : ℕ) → refusal_at number 0 ≡ first_of (call_rows w (length book) p (length l) room) → (number ≡ 0 → ⊥)
      → refused_with number 0 ≡ settlement w book p l room
  call_refused number e f =
      let is = refusal_call w (length book) p l room number e f in
      let refused : is_refusal refusal ≡ true = rw (← is, ne_eqb number 0 f) in
      sym (settled_by_lem refused ∙ rw (← is) refl)

  -- of the output's length only its room for the lines counts
  pub settled_room : (other : ℕ) → line_numbers * count_of l ≤ room → line_numbers * count_of l ≤ other
      → settlement w book p l room ≡ settlement w book p l other
  unfolding settlement
  settled_room other h g = rw (refusal_room w (length book) p l room other h g)

module _ (w p : ℕ) (book l out : List ℕ) where
  pub written_by_lem : is_refusal (refusal_of w (length book) p l (length out)) ≡ true → written w book p l out ≡ out
  unfolding written written_by
  written_by_lem e = rw e

  pub written_accepted : is_refusal (refusal_of w (length book) p l (length out)) ≡ false
      → written w book p l out ≡ lines_in p (event_at w book l) (count_of l) out
  unfolding written written_by
  written_accepted e = rw e

  -- an output with just the room for the lines is they
  pub written_just : length out ≡ line_numbers * count_of l → (settlement w book p l (length out)).number ≡ 0
      → written w book p l out ≡ lines_to p (event_at w book l) (count_of l)
  written_just e z =
      written_accepted (number_is w p book l (length out) z)
      ∙ rw (drop_of_length-le out (le_of_eq e)) (append-nil (lines_to p (event_at w book l) (count_of l)))
