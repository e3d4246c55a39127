-- Demands 1 and 2 of the medium-power settlement, from C: number and place are read off the one number that it answers, a refusal leaves every byte of
-- both outputs, and the numbers that C reads out of the bytes of an accepted call are lines and totals of `PowerDemand`, since each fits 64 bits.
-- Assumes nothing.
use Prim.Native.Nat.{ℕ, ◌+◌, ◌*◌, ◌/◌, ◌%◌, ◌^◌, ◌<◌}
use mathlib.Core.List.{List, [], ◌++◌, append-nil}
use mathlib.Core.Logic.{◌↔◌}
use mathlib.Core.Path.{◌≡◌, refl, ap, ◌∙◌}
use native.Mathlib.Omega.{arith}
use lib.ListN.{length, get_or, drop}
use Rattle.power_boundary.proofs.PowerTold.{power_told, power_accepted, lines_unwritten, totals_unwritten, lines_written, totals_written}
use Rattle.power_boundary.specs.PowerCalls.{totals_in, power_settled, power_call, power_bytes, total_bytes}
use Rattle.laws.proofs.Tells.{Tells}
use Rattle.laws.specs.Sums.{sum_to}
use Rattle.notices.specs.Notices.{count_of, notice_at}
use Rattle.power.proofs.CreditLaws.{credit_most}
use Rattle.power.proofs.Exact.{accepted_iff_settles, settlement_tells}
use Rattle.power.proofs.EventLaws.{SmallEvent, reduced_at_lem, reduced_small}
use Rattle.power.proofs.LineLaws.{code_is, place_is, energy_is, reduction_is, ready_fits}
use Rattle.power.proofs.RefusalLaws.{PowerSettles}
use Rattle.power.proofs.SettlementLaws.{number_is, settled_accepted}
use Rattle.power.specs.Credit.{credit_of}
use Rattle.power.specs.Lines.{power_line_numbers, power_lines_to, reduction_at, settled_at}
use Rattle.power.specs.Ready.{MeanFits}
use Rattle.power.specs.Reduced.{Reduced, reference_at, reduced_at}
use Rattle.power.specs.Refusals.{total_numbers, power_table}
use Rattle.power.specs.Settlement.{power_totals_of}
use Rattle.power.specs.Settlement.{PowerSettlement}
use Rattle.wire.proofs.RoundTrip.{written_back}
use Rattle.wire.specs.Decoded.{decoded}
use Rattle.demands.specs.Faces.{number64}
use Rattle.demands.specs.PowerDemand.{PowerDemand}
use Rattle.demands.specs.PowerSheet.{power_in_bytes}
use Rattle.demands.proofs.Power.{TellsEvent, ready, sheet_demand}

module _ (winter : ℕ) (lent_book lent_list lent_references out totals : List ℕ) where
  abbrev answer : ℕ
  answer = power_call winter lent_book lent_list lent_references (length out) (length totals)

  abbrev settled : PowerSettlement
  settled = power_settled winter lent_book lent_list lent_references (length out) (length totals)

  -- DEMAND 1
  pub power_answers_c : Tells (power_table winter (length (decoded lent_book)) (decoded lent_list) (decoded lent_references) (length out / 8)
      (length totals / 8))
      (answer / 65536) (answer % 65536)
  power_answers_c =
      let told = power_told winter lent_book lent_list lent_references out totals in
      rw (told.0, told.1)
      (settlement_tells winter (decoded lent_book) (decoded lent_list) (decoded lent_references) (length out / 8) (length totals / 8))

  pub power_writes_nothing_c : (answer ≡ 0 → ⊥)
      → (out ≡ power_bytes winter lent_book lent_list lent_references out totals) × (totals ≡ total_bytes winter lent_book lent_list lent_references out totals)
  power_writes_nothing_c f =
      (lines_unwritten winter lent_book lent_list lent_references out totals f, totals_unwritten winter lent_book lent_list lent_references out totals f)

  -- DEMAND 2
  pub power_lawful_c : (answer ≡ 0)
      ↔ PowerSettles winter (length (decoded lent_book)) (decoded lent_list) (decoded lent_references) (length out / 8) (length totals / 8)
  power_lawful_c =
      let exactly =
      accepted_iff_settles winter (decoded lent_book) (decoded lent_list) (decoded lent_references) (length out / 8) (length totals / 8) in (
        λ (z : answer ≡ 0). exactly.0 (omega (arith, (power_told winter lent_book lent_list lent_references out totals).0)),
        λ s. power_accepted winter lent_book lent_list lent_references out totals (exactly.1 s),
      )

  module _ (ok : answer ≡ 0) where
    abbrev book : List ℕ
    book = decoded lent_book

    abbrev list : List ℕ
    list = decoded lent_list

    abbrev references : List ℕ
    references = decoded lent_references

    abbrev n : ℕ
    n = count_of list

    abbrev events : ℕ → Reduced
    events = reduced_at book list references

    abbrev bytes : List ℕ
    bytes = power_bytes winter lent_book lent_list lent_references out totals

    abbrev after : List ℕ
    after = total_bytes winter lent_book lent_list lent_references out totals

    settles : PowerSettles winter (length book) list references (length out / 8) (length totals / 8)
    settles = power_lawful_c.0 ok

    settled_there : settled.number ≡ 0
    settled_there = omega (arith, (power_told winter lent_book lent_list lent_references out totals).0)

    answer_is : settled ≡ power_totals_of events n
    answer_is =
        settled_accepted winter book list references (length out / 8) (length totals / 8)
        (number_is winter book list references (length out / 8) (length totals / 8) settled_there)

    -- a number of the lines reads back
    back : (i v : ℕ) → i < power_line_numbers * n → get_or (power_lines_to events n ++ []) i 0 ≡ v → v < 2 ^ 64 → number64 bytes i ≡ v
    back i v h is fits =
        let there : get_or (power_lines_to events n) i 0 ≡ v = rw (append-nil (power_lines_to events n)) at is in
        rw (← lines_written winter lent_book lent_list lent_references out totals settled_there)
        (written_back (power_lines_to events n) i (omega (arith, there, fits)) (power_line_numbers * n) (drop (8 * (power_line_numbers * n)) out) h ∙ there)

    -- and one of the totals
    back_total : (i v : ℕ) → i < total_numbers → get_or (totals_in settled) i 0 ≡ v → v < 2 ^ 64 → number64 after i ≡ v
    back_total i v h is fits =
        rw (← totals_written winter lent_book lent_list lent_references out totals settled_there)
        (written_back (totals_in settled) i (omega (arith, is, fits)) total_numbers (drop (8 * total_numbers) totals) h ∙ is)

    small : (k : ℕ) → k < n → SmallEvent (events k)
    small k h =
        rw (reduced_at_lem book list references k)
        (reduced_small book (reference_at references k) (notice_at list k)
        ((ready winter book list references (length out / 8) (length totals / 8) settles).each k h))

    fits : MeanFits (sum_to (reduction_at events) n) (sum_to (settled_at events) n)
    fits = ready_fits book list references (ready winter book list references (length out / 8) (length totals / 8) settles) n (omega arith)

    line_tells : (k : ℕ) → k < n → TellsEvent (power_in_bytes n bytes after) k (events k)
    line_tells k h =
        let s = small k h in
        record {
          code = back (power_line_numbers * k) (events k).event.code (omega arith) (code_is events [] n k h) (omega (arith, s.code));
          place = back (power_line_numbers * k + 1) (events k).event.place (omega arith) (place_is events [] n k h) (omega (arith, s.place));
          energy = back (power_line_numbers * k + 2) (events k).event.energy (omega arith) (energy_is events [] n k h) (omega (arith, s.energy));
          reduction = back (power_line_numbers * k + 3) (events k).reduction (omega arith) (reduction_is events [] n k h) (omega (arith, s.reduction));
        }

    pub power_lines_c : PowerDemand book list references (power_in_bytes n bytes after)
    power_lines_c =
        sheet_demand winter book list references (length out / 8) (length totals / 8) settles (power_in_bytes n bytes after) refl line_tells
        (back_total 0 (sum_to (reduction_at events) n) (omega arith) (ap (λ (s : PowerSettlement). s.sum) answer_is) (omega (arith, fits.sum_most, fits.few)))
        (back_total 1 (sum_to (settled_at events) n) (omega arith) (ap (λ (s : PowerSettlement). s.settled) answer_is) (omega (arith, fits.few)))
        (back_total 2 (credit_of (sum_to (reduction_at events) n) (sum_to (settled_at events) n)) (omega arith)
        (ap (λ (s : PowerSettlement). s.cents) answer_is)
        (omega (arith, credit_most (sum_to (reduction_at events) n) (sum_to (settled_at events) n) fits)))
