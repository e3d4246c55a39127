-- What is left to show of `put_lines`, by the invariant in `Invariants.antt`.
-- Assumes nothing.
use Prim.Native.Nat.{ℕ, suc, ◌+◌, ◌-◌, ◌*◌, ◌≤◌, ◌<◌}
use mathlib.Core.List.{List, [], ◌∷◌, ◌++◌}
use mathlib.Core.Path.{◌≡◌, refl, sym, ap, ◌∙◌}
use native.Mathlib.Nat.{le_trans}
use native.Mathlib.Numerals.{add-one}
use native.Mathlib.Omega.{arith}
use lib.ListN.{length}
use lib.Seq.{sets}
use Rattle.std.proofs.lemmas.List.Edits.{sets-eq}
use Rattle.std.proofs.lemmas.Slice.{put_mid-paste}
use Rattle.laws.proofs.RowLaws.{filled_none, filled_next, filled_all}
use Rattle.laws.proofs.SumLaws.{sum_none, sum_next}
use Rattle.laws.specs.Bounds.{largest_energy}
use Rattle.laws.specs.Sums.{sum_to}
use Rattle.money.proofs.CentLaws.{cents_are}
use Rattle.money.proofs.PriceLaws.{worth_is}
use Rattle.money.proofs.WorthLaws.{worth_zero, worth_grows}
use Rattle.money.specs.Worth.{rounded_worth, most_energy, worth_of}
use Rattle.notices.specs.Notices.{count_of}
use Rattle.settlement.proofs.EventLaws.{energies_bounded}
use Rattle.settlement.specs.Events.{energy_at}
use Rattle.energy.specs.Event.{Event, event_paper, event_numbers}
use Rattle.credit.specs.Lines.{line_numbers, line_at}
use Rattle.credit.specs.Settlement.{totals_in, Fits}
use Rattle.credit.specs.declared.lines.Totals.{Totals}
use Rattle.credit.proofs.LineLaws.{line_wide, total_few}
use Rattle.credit.proofs.lines.put_lines.Invariants.{Carried}
use Rattle.credit.proofs.lines.put_lines.Goals as goal

carried_none : {p : ℕ} {events : ℕ → Event} {came : List ℕ} {n : ℕ} → Carried p events came n came 0 0 0
carried_none {p} {events} =
    let none = sum_none (energy_at events) in
    record { energy_is = sym none; worth_of_it = sym (ap (rounded_worth p) none ∙ worth_zero p); filled = filled_none }

module _ {p : ℕ} {events : ℕ → Event} {came : List ℕ} {n : ℕ} {out : List ℕ} {energy cents k : ℕ} (h : Carried p events came n out energy cents k)
    (bounded : (j : ℕ) → energy_at events j ≤ largest_energy) (fits : Fits p n (length came)) (lt : k < n) (e : Event) (q : e ≡ events k) where
  -- the energy with the event of this turn, which is not too much
  more_is : energy + e.energy ≡ sum_to (energy_at events) (suc k)
  more_is = rw (h.energy_is, q) (sym (sum_next (energy_at events) k))

  more_few : energy + e.energy ≤ most_energy
  more_few = rw more_is (total_few events bounded (suc k) (le_trans lt fits.few))

  module _ (w : ℕ) (said : w ≡ worth_of p (energy + e.energy)) where
    rounded : w ≡ rounded_worth p (energy + e.energy)
    rounded = said ∙ sym (worth_is p (energy + e.energy) fits.price more_few)

    rounded_more : w ≡ rounded_worth p (sum_to (energy_at events) (suc k))
    rounded_more = rounded ∙ ap (rounded_worth p) more_is

    no_less : cents ≤ w
    no_less = rw (rounded, h.worth_of_it, h.energy_is) (worth_grows p (sum_to (energy_at events) k) e.energy)

    line_is : ◌≡◌ {A = List ℕ} (e.code ∷ e.place ∷ e.energy ∷ (w - cents) ∷ []) (line_at p events k)
    unfolding line_at
    line_is = rw (q, ← cents_are p (energy_at events) k, rounded_more, h.worth_of_it)

    -- a turn: the four stores are line k
    carried_next : (out' : List ℕ) → out' ≡ sets out (line_numbers * k) (e.code ∷ e.place ∷ e.energy ∷ (w - cents) ∷ [])
        → Carried p events came n out' (energy + e.energy) w (k + 1)
    carried_next out' stored =
        record {
          energy_is = rw add-one more_is;
          worth_of_it = rw add-one rounded_more;
          filled = filled_next h.filled (line_wide p events) fits.room_enough lt stored line_is;
        }

totals_are : {p : ℕ} {events : ℕ → Event} {came : List ℕ} {n : ℕ} {out : List ℕ} {energy cents k : ℕ} → Carried p events came n out energy cents k
    → ◌≡◌ {A = Totals} (record { energy = energy; cents = cents }) (totals_in p events k)
totals_are h = rw (h.energy_is, h.worth_of_it)

pub loop-k-init : goal.loop-k-init
loop-k-init c = carried_none

pub overflow_add-energy : goal.overflow_add-energy
overflow_add-energy c =
    let lt = rw c.count_in-k-end.ensures at c.loop-k-test.true in
    let is = rw c.masks_of-masks.ensures at c.event_at-event.ensures in
    let few = more_few c.loop-k.invariant (energies_bounded _ _ _ _) c.requires lt _ is in
    rw c.line_numbers.ensures (omega (arith, few))

pub overflow_sub-line : goal.overflow_sub-line
overflow_sub-line c =
    let lt = rw c.count_in-k-end.ensures at c.loop-k-test.true in
    let is = rw c.masks_of-masks.ensures at c.event_at-event.ensures in
    no_less c.loop-k.invariant (energies_bounded _ _ _ _) c.requires lt _ is _ (rw c.line_numbers.ensures at c.worth_of-worth.ensures)

pub loop-k-preserved : goal.loop-k-preserved
loop-k-preserved c =
    let lt = rw c.count_in-k-end.ensures at c.loop-k-test.true in
    let is = rw c.masks_of-masks.ensures at c.event_at-event.ensures in
    let worth = rw c.line_numbers.ensures at c.worth_of-worth.ensures in
    let out = c.loop-k.out in
    let line = event_numbers (event_paper c.event_at-event.result) ++ (c.worth_of-worth.result - c.loop-k.cents) ∷ [] in
    let stored = rw c.line_numbers.ensures at c.copy_from_slice.ensures.after in
    rw c.line_numbers.ensures
    (carried_next c.loop-k.invariant (energies_bounded _ _ _ _) c.requires lt _ is _ worth _
    (put_mid-paste _ _ out _ line 4 stored (omega arith) refl ∙ sym (sets-eq line out _ (omega arith))))

pub returns : goal.returns
returns c =
    let past = rw c.count_in-k-end.ensures at c.loop-k-test.false in
    let all : c.loop-k.k ≡ count_of c.args.list.now = omega (arith, c.loop-k.invariant.filled.within) in
    record {
      value = rw all at (totals_are c.loop-k.invariant);
      out_after = filled_all c.loop-k.invariant.filled past;
    }
