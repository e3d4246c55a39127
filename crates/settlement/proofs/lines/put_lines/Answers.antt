-- What is left to show of `put_lines`, by the invariant in `Invariants.antt`.
-- Assumes nothing.
use Prim.Native.Nat.{ℕ, suc, ◌+◌, ◌*◌, ◌≤◌, ◌<◌}
use mathlib.Core.List.{List, [], ◌∷◌}
use mathlib.Core.Path.{◌≡◌, refl, sym, ◌∙◌}
use native.Mathlib.Nat.{le_trans}
use native.Mathlib.Numerals.{add-one}
use native.Mathlib.Omega.{arith}
use lib.ListN.{length}
use lib.Seq.{sets}
use Rattle.std.proofs.lemmas.List.Edits.{sets-eq}
use Rattle.std.proofs.lemmas.Slice.{put_mid-paste}
use Rattle.laws.proofs.RowLaws.{filled_none, filled_next, filled_all}
use Rattle.laws.proofs.SumLaws.{sum_none, sum_next}
use Rattle.laws.specs.Bounds.{largest_energy}
use Rattle.laws.specs.Sums.{sum_to}
use Rattle.notices.specs.Notices.{most_notices, count_of}
use Rattle.energy.proofs.PaperLaws.{event_energy}
use Rattle.energy.specs.Event.{Event, event_paper, event_numbers}
use Rattle.settlement.specs.Energies.{Fits}
use Rattle.settlement.specs.Events.{energy_at}
use Rattle.settlement.specs.Lines.{line_numbers, line_at}
use Rattle.settlement.proofs.EventLaws.{energies_bounded}
use Rattle.settlement.proofs.LineLaws.{line_wide, total_few}
use Rattle.settlement.proofs.lines.put_lines.Invariants.{Carried}
use Rattle.settlement.proofs.lines.put_lines.Goals as goal

carried_none : {events : ℕ → Event} {came : List ℕ} {n : ℕ} → Carried events came n came 0 0
carried_none {events} = record { energy_is = sym (sum_none (energy_at events)); filled = filled_none }

module _ {events : ℕ → Event} {came : List ℕ} {n : ℕ} {out : List ℕ} {energy k : ℕ} (h : Carried events came n out energy k) (fits : Fits n (length came))
    (lt : k < n) (e : Event) (q : e ≡ events k) where
  -- the energy with the event of this turn, which is not too much
  more_is : energy + e.energy ≡ sum_to (energy_at events) (suc k)
  more_is = rw (h.energy_is, q) (sym (sum_next (energy_at events) k))

  more_few : ((j : ℕ) → energy_at events j ≤ largest_energy) → energy + e.energy ≤ most_notices * largest_energy
  more_few bounded = rw more_is (total_few events bounded (suc k) (le_trans lt fits.few))

  line_is : ◌≡◌ {A = List ℕ} (e.code ∷ e.place ∷ e.energy ∷ []) (line_at events k)
  unfolding line_at
  line_is = rw q

  -- a turn: the three stores are line k
  carried_next : (out' : List ℕ) → out' ≡ sets out (line_numbers * k) (e.code ∷ e.place ∷ e.energy ∷ [])
      → Carried events came n out' (energy + e.energy) (k + 1)
  carried_next out' stored =
      record {
        energy_is = rw add-one more_is;
        filled = filled_next h.filled (line_wide events) fits.room_enough lt stored line_is;
      }

pub loop-k-init : goal.loop-k-init
loop-k-init c = carried_none

pub overflow_add-energy : goal.overflow_add-energy
overflow_add-energy c =
    let lt = rw c.count_in-k-end.ensures at c.loop-k-test.true in
    let is = rw c.masks_of-masks.ensures at c.event_at-event.ensures in
    let few = more_few c.loop-k.invariant c.requires lt _ is (energies_bounded _ _ _ _) in
    omega (arith, c.unwrap_or-energy.ensures, event_energy c.event_at-event.result, few)

pub loop-k-preserved : goal.loop-k-preserved
loop-k-preserved c =
    let lt = rw c.count_in-k-end.ensures at c.loop-k-test.true in
    let is = rw c.masks_of-masks.ensures at c.event_at-event.ensures in
    let out = c.loop-k.out in
    let line = event_numbers (event_paper c.event_at-event.result) in
    let stored = rw c.line_numbers-line.ensures at c.copy_from_slice.ensures.after in
    rw (c.unwrap_or-energy.ensures ∙ event_energy c.event_at-event.result)
    (carried_next c.loop-k.invariant c.requires lt _ is _
    (put_mid-paste _ _ out _ line 3 stored (omega arith) refl ∙ sym (sets-eq line out _ (omega arith))))

pub returns : goal.returns
returns c =
    let past = rw c.count_in-k-end.ensures at c.loop-k-test.false in
    let all : c.loop-k.k ≡ count_of c.args.list.now = omega (arith, c.loop-k.invariant.filled.within) in
    record { value = rw (← all) c.loop-k.invariant.energy_is; out_after = filled_all c.loop-k.invariant.filled past }
