-- Refusals are exact: cents are accepted exactly when the energies can be priced; what is answered is told by the table; and a refusal leaves a total
-- of 0 and writes nothing.
-- Assumes nothing.
use Prim.Native.Nat.{ℕ}
use mathlib.Core.Bool.{Bool, true, false}
use mathlib.Core.List.{List}
use mathlib.Core.Logic.{inl, ◌↔◌}
use mathlib.Core.Path.{◌≡◌, refl, ap}
use lib.ListN.{length}
use Rattle.laws.proofs.Tables.{unrefused_none}
use Rattle.laws.proofs.Tells.{Tells, table_tells}
use Rattle.laws.specs.Answer.{Answer}
use Rattle.laws.specs.Table.{Row, is_refusal}
use Rattle.money.specs.Pricing.{Priced, Priceable, cents_of, cents_written}
use Rattle.money.specs.Refusals.{cents_table, cents_refusal}
use Rattle.money.proofs.PricingLaws.{number_is, answer_accepted, refused_by, written_by_lem}
use Rattle.money.proofs.RefusalLaws.{table_numbered, unrefused_priceable, priceable_unrefused}

module _ (p : ℕ) (energies : List ℕ) (room : ℕ) where
  pub accepted_iff_priceable : ((cents_of p energies room).number ≡ 0) ↔ Priceable p energies room
  accepted_iff_priceable = (
    λ e. unrefused_priceable p energies room (number_is p energies room e),
    λ s. rw (answer_accepted p energies room (priceable_unrefused p energies room s)) refl,
  )

  -- number and place are told by the table: 0 where no row is broken, else those of its first broken row
  pub cents_tell : Tells (cents_table p energies room) (cents_of p energies room).number (cents_of p energies room).place
  unfolding cents_refusal
  cents_tell = by (is_refusal refusal) refl
    where
      table : List Row
      table = cents_table p energies room

      refusal : Answer
      refusal = cents_refusal p energies room

      by : (b : Bool) → is_refusal refusal ≡ b → Tells table (cents_of p energies room).number (cents_of p energies room).place
      by true q = rw (refused_by p energies room q) (table_tells table (table_numbered p energies room) refusal refl)
      by false q =
          rw (answer_accepted p energies room q)
          (inl (record { none_broken = unrefused_none table (table_numbered p energies room) q; number_none = refl; place_none = refl }))

-- a refusal writes nothing, and its total is 0
module _ (p : ℕ) (energies out : List ℕ) (refused : (cents_of p energies (length out)).number ≡ 0 → ⊥) where
  is_refusal_lem : is_refusal (cents_refusal p energies (length out)) ≡ true
  is_refusal_lem = by (is_refusal (cents_refusal p energies (length out))) refl
    where
      by : (b : Bool) → is_refusal (cents_refusal p energies (length out)) ≡ b → is_refusal (cents_refusal p energies (length out)) ≡ true
      by true q = q
      by false q = absurd (refused (ap (λ (s : Priced). s.number) (answer_accepted p energies (length out) q)))

  pub refused_untouched : cents_written p energies out ≡ out
  refused_untouched = written_by_lem p energies out is_refusal_lem

  pub refused_total : (cents_of p energies (length out)).cents ≡ 0
  refused_total = rw (refused_by p energies (length out) is_refusal_lem) refl
