-- Laws of the energies, one for each way out: refused, with nothing written, or the lines and their total.
-- Assumes nothing.
use Prim.Native.Nat.{ℕ, ◌*◌, ◌≤◌}
use mathlib.Core.Bool.{Bool, true, false, true≢false}
use mathlib.Core.List.{List, append-nil}
use mathlib.Core.Path.{◌≡◌, refl, sym, ap, ◌∙◌}
use native.Mathlib.Nat.{le_of_eq}
use native.Mathlib.Omega.{arith}
use lib.ListN.{length, get_or, drop_of_length-le}
use borrow.Author.Tests.{ne_eqb}
use Rattle.laws.specs.Answer.{Answer}
use Rattle.laws.specs.Table.{refusal_at, first_of, is_refusal}
use Rattle.laws.specs.Bounds.{largest_number, largest_place}
use Rattle.notices.specs.Notices.{count_of}
use Rattle.refusals.proofs.RuleNumbers.{refused_is}
use Rattle.refusals.specs.Refusals.{verdict_paper}
use Rattle.refusals.specs.declared.refusal.Refusal.{Refusal}
use Rattle.std.specs.Prelude.{Err, ⊤}
use Rattle.settlement.specs.Events.{event_at}
use Rattle.settlement.specs.Lines.{line_numbers, lines_to, lines_in}
use Rattle.settlement.specs.Refusals.{call_rows, refusal_of}
use Rattle.settlement.specs.Energies.{Spared, spared_paper, refused_with, total_of, answered_by, written_by, energies_of, energies_written}
use Rattle.settlement.proofs.RefusalLaws.{refusal_call, refusal_room, refusal_bounded}

module _ (w : ℕ) (book l : List ℕ) (room : ℕ) where
  abbrev refusal : Answer
  refusal = refusal_of w (length book) l room

  pub refused_by : is_refusal refusal ≡ true → energies_of w book l room ≡ refused_with refusal.number (get_or refusal.values 0 0)
  unfolding energies_of answered_by
  refused_by e = rw e

  pub answer_accepted : is_refusal refusal ≡ false → energies_of w book l room ≡ total_of (event_at w book l) (count_of l)
  unfolding energies_of answered_by
  answer_accepted e = rw e

  -- an answer with number 0 is no refusal
  pub number_is : (energies_of w book l room).number ≡ 0 → is_refusal refusal ≡ false
  number_is e = by (is_refusal refusal) refl
    where
      by : (b : Bool) → is_refusal refusal ≡ b → is_refusal refusal ≡ false
      by true q = let z : refusal.number ≡ 0 = ap (λ (s : Spared). s.number) (sym (refused_by q)) ∙ e in absurd (true≢false (sym q ∙ rw z refl))
      by false q = q

  -- numbers and places are bounded
  pub answer_bounded : ((energies_of w book l room).number ≤ largest_number) × ((energies_of w book l room).place ≤ largest_place)
  answer_bounded = by (is_refusal refusal) refl
    where
      by : (b : Bool) → is_refusal refusal ≡ b → ((energies_of w book l room).number ≤ largest_number) × ((energies_of w book l room).place ≤ largest_place)
      by true q = rw (refused_by q) (refusal_bounded w (length book) l room)
      by false q = rw (answer_accepted q) (omega arith, omega arith)

  -- what is refused is answered by the refusal
  module _ (r : Refusal) (said : verdict_paper {A = ⊤} (Err r) ≡ refusal) where
    pub refused_lem : is_refusal refusal ≡ true
    refused_lem = rw (← said) (refused_is r.rule r.place)

    pub refused_answer : spared_paper (Err r) ≡ energies_of w book l room
    refused_answer = sym (refused_by refused_lem ∙ rw (← said) refl)

  -- a call that its winter or its lengths refuse
  pub call_refused : (number : ℕ) → refusal_at number 0 ≡ first_of (call_rows w (length book) (length l) room) → (number ≡ 0 → ⊥)
      → refused_with number 0 ≡ energies_of w book l room
  call_refused number e f =
      let is = refusal_call w (length book) l room number e f in
      let refused : is_refusal refusal ≡ true = rw (← is, ne_eqb number 0 f) in
      sym (refused_by refused ∙ rw (← is) refl)

  -- of the output's length only its room for the lines counts
  pub answer_room_lem : (other : ℕ) → line_numbers * count_of l ≤ room → line_numbers * count_of l ≤ other
      → energies_of w book l room ≡ energies_of w book l other
  unfolding energies_of
  answer_room_lem other h g = rw (refusal_room w (length book) l room other h g)

module _ (w : ℕ) (book l out : List ℕ) where
  pub written_by_lem : is_refusal (refusal_of w (length book) l (length out)) ≡ true → energies_written w book l out ≡ out
  unfolding energies_written written_by
  written_by_lem e = rw e

  pub written_accepted : is_refusal (refusal_of w (length book) l (length out)) ≡ false
      → energies_written w book l out ≡ lines_in (event_at w book l) (count_of l) out
  unfolding energies_written written_by
  written_accepted e = rw e

  -- an output with just the room for the lines is they
  pub written_just : length out ≡ line_numbers * count_of l → (energies_of w book l (length out)).number ≡ 0
      → energies_written w book l out ≡ lines_to (event_at w book l) (count_of l)
  written_just e z =
      written_accepted (number_is w book l (length out) z)
      ∙ rw (drop_of_length-le out (le_of_eq e)) (append-nil (lines_to (event_at w book l) (count_of l)))
