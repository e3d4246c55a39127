-- Demand 2 of an accepted call, said of the numbers that stand in its output: each line tells what its event comes to, the energies are such as are
-- priced, and they add up to the total.
-- Assumes nothing.
use Prim.Native.Nat.{ℕ, ◌*◌, ◌≤◌, ◌<◌}
use mathlib.Core.Bool.{false}
use mathlib.Core.List.{List}
use mathlib.Core.Path.{◌≡◌, ◌∙◌}
use native.Mathlib.Omega.{arith}
use lib.ListN.{length, drop}
use lib.Seq.{drop_at}
use Rattle.calendar.specs.WinterOf.{winter_of}
use Rattle.energy.specs.Asked.{asked_by}
use Rattle.energy.specs.Line.{line_of}
use Rattle.energy.specs.Event.{Event}
use Rattle.event_hours.specs.Days.{masks_of}
use Rattle.laws.proofs.RowLaws.{rows_long}
use Rattle.laws.proofs.SumLaws.{run_same, run_first}
use Rattle.laws.specs.Bounds.{largest_energy}
use Rattle.laws.specs.Sums.{run_of}
use Rattle.laws.specs.Table.{is_refusal}
use Rattle.notices.specs.Notices.{count_of, notice_at}
use Rattle.references.specs.ReferenceDays.{free_in}
use Rattle.settlement.specs.Energies.{energies_of, energies_written}
use Rattle.settlement.specs.Events.{event_at, energy_at}
use Rattle.settlement.specs.Lines.{line_numbers, lines_to, lines_in}
use Rattle.settlement.specs.Printed.{energy_in, event_told}
use Rattle.settlement.specs.Refusals.{refusal_of}
use Rattle.settlement.proofs.EnergiesLaws.{number_is, answer_accepted, written_accepted}
use Rattle.settlement.proofs.EventLaws.{event_is_line, event_bounded}
use Rattle.settlement.proofs.LineLaws.{line_wide, energy_is, told_is}
use Rattle.settlement.proofs.RefusalLaws.{unrefused_right, list_lawful}

module _ (w : ℕ) (book l out : List ℕ) (ok : (energies_of w book l (length out)).number ≡ 0) where
  abbrev pub events : ℕ → Event
  events = event_at w book l

  abbrev pub n : ℕ
  n = count_of l

  abbrev pub output : List ℕ
  output = energies_written w book l out

  none : is_refusal (refusal_of w (length book) l (length out)) ≡ false
  none = number_is w book l (length out) ok

  output_is : output ≡ lines_in events n out
  output_is = written_accepted w book l out none

  -- each line tells the event of its notice
  pub event_told_lem : (k : ℕ) → k < n → event_told output k ≡ events k
  event_told_lem k h = rw output_is (told_is events (drop (line_numbers * n) out) n k h)

  pub energies_are : (k : ℕ) → k < n → energy_in output k ≡ (events k).energy
  energies_are k h = rw output_is (energy_is events (drop (line_numbers * n) out) n k h)

  -- rule 6.10: no energy is too large to be priced
  pub energies_priced : (k : ℕ) → k < n → energy_in output k ≤ largest_energy
  energies_priced k h = rw (energies_are k h) (event_bounded w book l k)

  -- they add up to the total
  pub energies_add_up : run_of (energy_in output) 0 n ≡ (energies_of w book l (length out)).energy
  energies_add_up =
      rw (
        run_same (energy_in output) (energy_at events) 0 n (λ j b. energies_are j (omega arith)),
        run_first (energy_at events) n,
        answer_accepted w book l (length out) none,
      )

  -- DEMAND 2: the code, place and energy of a line are what its event asks of the book comes to
  pub line_is_answer : (k : ℕ) → k < n → event_told output k ≡ line_of book (asked_by (winter_of w) (free_in (masks_of l)) (notice_at l k))
  line_is_answer k h =
      let s = unrefused_right w (length book) l (length out) none in
      let r = list_lawful w (length book) l (length out) none in
      event_told_lem k h ∙ event_is_line w book l k s.book (r.each k h)

  -- what stands behind the lines stays
  pub past_untouched : drop (line_numbers * n) output ≡ drop (line_numbers * n) out
  past_untouched = rw output_is (drop_at (lines_to events n) (drop (line_numbers * n) out) (line_numbers * n) (rows_long (line_wide events) n))
