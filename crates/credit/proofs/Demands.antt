-- Demands 2 and 3 of an accepted settlement, said of the numbers that stand in its output: each line tells what its event comes to,
-- the cents of every run of lines are near their exact worth, no line is negative, and the lines add up to the totals.
-- Assumes nothing.
use Prim.Native.Nat.{ℕ, suc, ◌+◌, ◌*◌, ◌≤◌, ◌<◌}
use mathlib.Core.Bool.{false}
use mathlib.Core.List.{List}
use mathlib.Core.Path.{◌≡◌, ◌∙◌}
use native.Mathlib.Omega.{arith}
use lib.ListN.{length, drop}
use lib.Seq.{drop_at}
use Rattle.calendar.specs.WinterOf.{winter_of}
use Rattle.energy.specs.Asked.{asked_by}
use Rattle.energy.specs.Line.{line_of}
use Rattle.references.specs.ReferenceDays.{free_in}
use Rattle.event_hours.specs.Days.{masks_of}
use Rattle.laws.specs.Table.{is_refusal}
use Rattle.laws.proofs.SumLaws.{run_same, run_first}
use Rattle.laws.specs.Sums.{run_of}
use Rattle.money.proofs.CentLaws.{cents_next, cents_first, run_near, first_run_near}
use Rattle.money.specs.Near.{Near, NearHalf}
use Rattle.money.specs.Cents.{cents_at}
use Rattle.money.specs.Worth.{cent_parts, exact_worth, rounded_worth}
use Rattle.notices.specs.Notices.{count_of, notice_at}
use Rattle.laws.proofs.RowLaws.{rows_long}
use Rattle.settlement.proofs.EventLaws.{event_is_line}
use Rattle.settlement.specs.Events.{event_at, energy_at}
use Rattle.energy.specs.Event.{Event}
use Rattle.credit.specs.Lines.{line_numbers, lines_to}
use Rattle.credit.specs.Printed.{energy_in, cents_in, event_told}
use Rattle.credit.specs.Refusals.{refusal_of}
use Rattle.credit.specs.Settlement.{settlement, lines_in, written}
use Rattle.credit.proofs.LineLaws.{line_wide, energy_is, told_is, cents_is}
use Rattle.credit.proofs.RefusalLaws.{settlement_right, list_lawful}
use Rattle.credit.proofs.SettlementLaws.{number_is, settled_accepted, written_accepted}

module _ (w p : ℕ) (book l out : List ℕ) (ok : (settlement w book p l (length out)).number ≡ 0) where
  abbrev pub events : ℕ → Event
  events = event_at w book l

  abbrev pub n : ℕ
  n = count_of l

  abbrev pub output : List ℕ
  output = written w book p l out

  none : is_refusal (refusal_of w (length book) p l (length out)) ≡ false
  none = number_is w p book l (length out) ok

  output_is : output ≡ lines_in p events n out
  output_is = written_accepted w p book l out none

  energies : (k : ℕ) → k < n → energy_in output k ≡ (events k).energy
  energies k h = rw output_is (energy_is p events (drop (line_numbers * n) out) n k h)

  cents : (k : ℕ) → k < n → cents_in output k ≡ cents_at p (energy_at events) k
  cents k h = rw output_is (cents_is p events (drop (line_numbers * n) out) n k h)

  energy_run_is : (i k : ℕ) → i + k ≤ n → run_of (energy_in output) i k ≡ run_of (energy_at events) i k
  energy_run_is i k h = run_same (energy_in output) (energy_at events) i k (λ j b. energies j (omega arith))

  cents_run_is : (i k : ℕ) → i + k ≤ n → run_of (cents_in output) i k ≡ run_of (cents_at p (energy_at events)) i k
  cents_run_is i k h = run_same (cents_in output) (cents_at p (energy_at events)) i k (λ j b. cents j (omega arith))

  -- rule 10.6: any run of lines, to less than a cent
  pub run_within_a_cent : (i k : ℕ) → i + k ≤ n → Near (cent_parts * run_of (cents_in output) i k) (exact_worth p (run_of (energy_in output) i k)) cent_parts
  run_within_a_cent i k h = rw (cents_run_is i k h, energy_run_is i k h) (run_near p (energy_at events) i k)

  -- rule 10.7: one that begins with the first line, to half a cent
  pub first_run_within_half : (k : ℕ) → k ≤ n → NearHalf (cent_parts * run_of (cents_in output) 0 k) (exact_worth p (run_of (energy_in output) 0 k)) cent_parts
  first_run_within_half k h = rw (cents_run_is 0 k (omega arith), energy_run_is 0 k (omega arith)) (first_run_near p (energy_at events) k)

  -- rule 10.8: its cents are the whole way from the rounded worth before it to the rounded worth with it, and nothing was cut off
  pub no_line_negative : (k : ℕ) → k < n → rounded_worth p (run_of (energy_in output) 0 k) + cents_in output k
      ≡ rounded_worth p (run_of (energy_in output) 0 (suc k))
  no_line_negative k h =
      let before = energy_run_is 0 k (omega arith) ∙ run_first (energy_at events) k in
      let with_it = energy_run_is 0 (suc k) (omega arith) ∙ run_first (energy_at events) (suc k) in
      rw (cents k h, before, with_it) (cents_next p (energy_at events) k)

  -- rule 10.9: in cents and in energy
  pub cents_add_up : run_of (cents_in output) 0 n ≡ (settlement w book p l (length out)).cents
  cents_add_up = rw (cents_run_is 0 n (omega arith), cents_first p (energy_at events) n, settled_accepted w p book l (length out) none)

  pub energies_add_up : run_of (energy_in output) 0 n ≡ (settlement w book p l (length out)).energy
  energies_add_up = rw (energy_run_is 0 n (omega arith), run_first (energy_at events) n, settled_accepted w p book l (length out) none)

  -- DEMAND 2: the code, place and energy of a line are what its event asks of the book comes to
  pub line_is_answer : (k : ℕ) → k < n → event_told output k ≡ line_of book (asked_by (winter_of w) (free_in (masks_of l)) (notice_at l k))
  line_is_answer k h =
      let s = settlement_right w (length book) p l (length out) none in
      let r = list_lawful w (length book) p l (length out) none in
      rw output_is (told_is p events (drop (line_numbers * n) out) n k h) ∙ event_is_line w book l k s.book (r.each k h)

  -- rule 7.6: what stands behind the lines stays
  pub past_untouched : drop (line_numbers * n) output ≡ drop (line_numbers * n) out
  past_untouched = rw output_is (drop_at (lines_to p events n) (drop (line_numbers * n) out) (line_numbers * n) (rows_long (line_wide p events) n))
