-- Refusals are exact: a settlement is accepted exactly when the call is right, its references are low and its list keeps every rule of the power
-- option; what is answered is told by the table; and a refusal leaves totals 0 and writes nothing.
-- Assumes nothing.
use Prim.Native.Nat.{ℕ}
use mathlib.Core.Bool.{Bool, true, false}
use mathlib.Core.List.{List}
use mathlib.Core.Logic.{inl, ◌↔◌}
use mathlib.Core.Path.{◌≡◌, refl, ap}
use lib.ListN.{length}
use Rattle.laws.proofs.Tables.{unrefused_none}
use Rattle.laws.proofs.Tells.{Tells, table_tells}
use Rattle.laws.specs.Answer.{Answer}
use Rattle.laws.specs.Table.{Row, is_refusal}
use Rattle.power.specs.Refusals.{power_table, power_refusal}
use Rattle.power.specs.Settlement.{PowerSettlement, power_settlement, power_written}
use Rattle.power.proofs.RefusalLaws.{PowerSettles, table_numbered, unrefused_settles, settles_unrefused}
use Rattle.power.proofs.SettlementLaws.{number_is, settled_accepted, settled_by_lem, written_by_lem}

module _ (w : ℕ) (book l references : List ℕ) (room totals : ℕ) where
  abbrev refusal : Answer
  refusal = power_refusal w (length book) l references room totals

  abbrev settled : PowerSettlement
  settled = power_settlement w book l references room totals

  abbrev table : List Row
  table = power_table w (length book) l references room totals

  pub accepted_iff_settles : (settled.number ≡ 0) ↔ PowerSettles w (length book) l references room totals
  accepted_iff_settles = (
    λ e. unrefused_settles w (length book) l references room totals (number_is w book l references room totals e),
    λ s. rw (settled_accepted w book l references room totals (settles_unrefused w (length book) l references room totals s)) refl,
  )

  -- number and place are told by the table: 0 where no row is broken, else those of its first broken row
  pub settlement_tells : Tells table settled.number settled.place
  unfolding power_refusal
  settlement_tells = by (is_refusal refusal) refl
    where
      by : (b : Bool) → is_refusal refusal ≡ b → Tells table settled.number settled.place
      by true q =
          rw (settled_by_lem w book l references room totals q)
          (table_tells table (table_numbered w (length book) l references room totals) refusal refl)
      by false q =
          rw (settled_accepted w book l references room totals q)
          (inl (record {
            none_broken = unrefused_none table (table_numbered w (length book) l references room totals) q;
            number_none = refl;
            place_none = refl;
          }))

-- a refusal writes nothing, and its totals are 0
module _ (w : ℕ) (book l references out : List ℕ) (totals : ℕ)
    (refused : (power_settlement w book l references (length out) totals).number ≡ 0 → ⊥) where
  is_refusal_lem : is_refusal (power_refusal w (length book) l references (length out) totals) ≡ true
  is_refusal_lem = by (is_refusal (power_refusal w (length book) l references (length out) totals)) refl
    where
      by : (b : Bool) → is_refusal (power_refusal w (length book) l references (length out) totals) ≡ b
          → is_refusal (power_refusal w (length book) l references (length out) totals) ≡ true
      by true q = q
      by false q = absurd (refused (ap (λ (s : PowerSettlement). s.number) (settled_accepted w book l references (length out) totals q)))

  pub refused_untouched : power_written w book l references out totals ≡ out
  refused_untouched = written_by_lem w book l references out totals is_refusal_lem

  pub refused_totals : ((power_settlement w book l references (length out) totals).sum ≡ 0)
      × ((power_settlement w book l references (length out) totals).settled ≡ 0)
      × ((power_settlement w book l references (length out) totals).cents ≡ 0)
  refused_totals = rw (settled_by_lem w book l references (length out) totals is_refusal_lem) (refl, refl, refl)
