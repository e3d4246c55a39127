-- Laws of the cents, one for each way out: refused, with nothing written, or the cents of the energies and their total.
-- Assumes nothing.
use Prim.Native.Nat.{ℕ, ◌≤◌}
use mathlib.Core.Bool.{Bool, true, false, true≢false}
use mathlib.Core.List.{List, append-nil}
use mathlib.Core.Path.{◌≡◌, refl, sym, ap, ◌∙◌}
use native.Mathlib.Nat.{le_of_eq}
use native.Mathlib.Omega.{arith}
use lib.ListN.{length, get_or, drop_of_length-le}
use borrow.Author.Tests.{ne_eqb}
use Rattle.laws.specs.Answer.{Answer}
use Rattle.laws.specs.Bounds.{largest_number, largest_place}
use Rattle.laws.specs.Table.{refusal_at, is_refusal}
use Rattle.money.specs.Cents.{cents_to, cents_in, total_cents}
use Rattle.money.specs.Pricing.{Priced, priced_paper, refused_with, priced_at, cents_of, cents_written}
use Rattle.money.specs.Refusals.{cents_refusal}
use Rattle.money.proofs.RefusalLaws.{refusal_bounded, refusal_room}
use Rattle.refusals.proofs.RuleNumbers.{refused_is}
use Rattle.refusals.specs.Refusals.{verdict_paper}
use Rattle.refusals.specs.declared.refusal.Refusal.{Refusal}
use Rattle.std.specs.Prelude.{Err, ⊤}

module _ (p : ℕ) (energies : List ℕ) (room : ℕ) where
  abbrev refusal : Answer
  refusal = cents_refusal p energies room

  pub refused_by : is_refusal refusal ≡ true → cents_of p energies room ≡ refused_with refusal.number (get_or refusal.values 0 0)
  unfolding cents_of
  refused_by e = rw e

  pub answer_accepted : is_refusal refusal ≡ false → cents_of p energies room ≡ priced_at p energies
  unfolding cents_of
  answer_accepted e = rw e

  pub priced_is : is_refusal refusal ≡ false → (cents : ℕ) → cents ≡ total_cents p energies
      → ◌≡◌ {A = Priced} (record { number = 0; place = 0; cents = cents }) (cents_of p energies room)
  priced_is e cents is = rw is (sym (answer_accepted e))

  -- an answer with number 0 is no refusal
  pub number_is : (cents_of p energies room).number ≡ 0 → is_refusal refusal ≡ false
  number_is e = by (is_refusal refusal) refl
    where
      by : (b : Bool) → is_refusal refusal ≡ b → is_refusal refusal ≡ false
      by true q = let z : refusal.number ≡ 0 = ap (λ (s : Priced). s.number) (sym (refused_by q)) ∙ e in absurd (true≢false (sym q ∙ rw z refl))
      by false q = q

  -- numbers and places are bounded
  pub answer_bounded : ((cents_of p energies room).number ≤ largest_number) × ((cents_of p energies room).place ≤ largest_place)
  answer_bounded = by (is_refusal refusal) refl
    where
      by : (b : Bool) → is_refusal refusal ≡ b → ((cents_of p energies room).number ≤ largest_number) × ((cents_of p energies room).place ≤ largest_place)
      by true q = rw (refused_by q) (refusal_bounded p energies room)
      by false q = rw (answer_accepted q) (omega arith, omega arith)

  -- number and place that tell the refusal
  pub told_answer : (number place : ℕ) → refusal_at number place ≡ refusal → (number ≡ 0 → ⊥) → refused_with number place ≡ cents_of p energies room
  told_answer number place said f =
      let refused : is_refusal refusal ≡ true = rw (← said, ne_eqb number 0 f) in
      sym (refused_by refused ∙ rw (← said) refl)

  -- and the refusal itself
  module _ (r : Refusal) (said : verdict_paper {A = ⊤} (Err r) ≡ refusal) where
    pub refused_lem : is_refusal refusal ≡ true
    refused_lem = rw (← said) (refused_is r.rule r.place)

    pub refused_answer : priced_paper (Err r) ≡ cents_of p energies room
    refused_answer = sym (refused_by refused_lem ∙ rw (← said) refl)

  -- of the output's length only its room for the cents counts
  pub answer_room_lem : (other : ℕ) → length energies ≤ room → length energies ≤ other → cents_of p energies room ≡ cents_of p energies other
  unfolding cents_of
  answer_room_lem other h g = rw (refusal_room p energies room other h g)

module _ (p : ℕ) (energies out : List ℕ) where
  pub written_by_lem : is_refusal (cents_refusal p energies (length out)) ≡ true → cents_written p energies out ≡ out
  unfolding cents_written
  written_by_lem e = rw e

  pub written_accepted : is_refusal (cents_refusal p energies (length out)) ≡ false → cents_written p energies out ≡ cents_in p energies out
  unfolding cents_written
  written_accepted e = rw e

  -- an output with just the room for the cents is they
  pub written_just : length out ≡ length energies → (cents_of p energies (length out)).number ≡ 0 → cents_written p energies out ≡ cents_to p energies
  written_just e z =
      written_accepted (number_is p energies (length out) z)
      ∙ rw (drop_of_length-le out (le_of_eq e)) (append-nil (cents_to p energies))
