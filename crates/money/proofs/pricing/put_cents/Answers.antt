-- What is left to show of `put_cents`, by the invariant in `Invariants.antt`.
-- Assumes nothing.
use Prim.Native.Nat.{ℕ, suc, ◌+◌, ◌-◌, ◌≤◌, ◌<◌}
use mathlib.Core.List.{List}
use mathlib.Core.Path.{◌≡◌, sym, ap, ◌∙◌}
use native.Mathlib.Nat.{le_trans, mul-le-mul_right}
use native.Mathlib.Numerals.{add-one}
use native.Mathlib.Omega.{arith}
use lib.ListN.{length, set}
use Rattle.laws.proofs.RowLaws.{filled_none, filled_set}
use Rattle.laws.proofs.SumLaws.{sum_none, sum_next, sum_bounded}
use Rattle.laws.specs.Bounds.{largest_energy}
use Rattle.laws.specs.Sums.{sum_to}
use Rattle.money.specs.Cents.{cents_at, row_energy}
use Rattle.money.specs.Pricing.{Priceable}
use Rattle.money.specs.Worth.{rounded_worth, most_energy}
use Rattle.money.proofs.CentLaws.{cents_are}
use Rattle.money.proofs.WorthLaws.{worth_zero, worth_grows}
use Rattle.money.proofs.pricing.put_cents.Invariants.{Carried}
use Rattle.money.proofs.pricing.put_cents.Goals as goal

carried_none : {p : ℕ} {energies came : List ℕ} → Carried p energies came came 0 0 0
carried_none {p} {energies} =
    let none = sum_none (row_energy energies) in
    record { energy_is = sym none; worth_of_it = sym (ap (rounded_worth p) none ∙ worth_zero p); filled = filled_none }

module _ {p : ℕ} {energies came out : List ℕ} {energy worth k : ℕ} (h : Carried p energies came out energy worth k)
    (can : Priceable p energies (length came)) (lt : k < length energies) where
  -- the sum with the energy of this turn, which is not too much
  more_is : energy + row_energy energies k ≡ sum_to (row_energy energies) (suc k)
  more_is = rw h.energy_is (sym (sum_next (row_energy energies) k))

  more_few : energy + row_energy energies k ≤ most_energy
  more_few =
      rw more_is
      (le_trans (sum_bounded (row_energy energies) largest_energy (suc k) (λ j b. can.low j (le_trans b lt)))
      (mul-le-mul_right largest_energy (le_trans lt can.few)))

  module _ (next : ℕ) (said : next ≡ rounded_worth p (energy + row_energy energies k)) where
    next_is : next ≡ rounded_worth p (sum_to (row_energy energies) (suc k))
    next_is = said ∙ ap (rounded_worth p) more_is

    no_less : worth ≤ next
    no_less = rw (said, h.worth_of_it, h.energy_is) (worth_grows p (sum_to (row_energy energies) k) (row_energy energies k))

    cents_here : next - worth ≡ cents_at p (row_energy energies) k
    cents_here = rw (← cents_are p (row_energy energies) k, next_is, h.worth_of_it)

    -- a turn: the number that is put is the cents of energy k
    carried_next : Carried p energies came (set out k (next - worth)) (energy + row_energy energies k) next (k + 1)
    carried_next =
        record {
          energy_is = rw add-one more_is;
          worth_of_it = rw add-one next_is;
          filled = filled_set h.filled can.room_enough lt cents_here;
        }

pub loop-k-init : goal.loop-k-init
loop-k-init c = carried_none

pub overflow_add-more : goal.overflow_add-more
overflow_add-more c = omega (arith, more_few c.loop-k.invariant c.requires c.loop-k-test.true)

pub rounded_worth-next-requires : goal.rounded_worth-next-requires
rounded_worth-next-requires c = (c.requires.most, more_few c.loop-k.invariant c.requires c.loop-k-test.true)

pub overflow_sub-out : goal.overflow_sub-out
overflow_sub-out c = no_less c.loop-k.invariant c.requires c.loop-k-test.true _ c.rounded_worth-next.ensures

pub loop-k-preserved : goal.loop-k-preserved
loop-k-preserved c = carried_next c.loop-k.invariant c.requires c.loop-k-test.true _ c.rounded_worth-next.ensures
