-- Demands 1 and 2 of the medium-power settlement, on numbers: whatever is asked is answered by one table, a refusal leaves all as it was, a call is
-- accepted exactly when it keeps every rule (`PowerSettles`), and then lines and totals are those of `PowerDemand`. No reading but those of the event
-- hours has an effect.
-- Assumes nothing.
use Prim.Native.Nat.{ℕ, ◌-◌, ◌*◌, ◌<◌}
use mathlib.Core.List.{List}
use mathlib.Core.Logic.{◌↔◌}
use mathlib.Core.Path.{◌≡◌, refl, sym, ap, ◌∙◌}
use native.Mathlib.Omega.{arith}
use lib.Dec.{eqb}
use lib.ListN.{length, drop}
use Rattle.book.specs.Readings.{reading_at, sum_over}
use Rattle.laws.proofs.Every.{Every}
use Rattle.laws.proofs.SumLaws.{run_same, run_first}
use Rattle.laws.proofs.Tells.{Tells}
use Rattle.laws.specs.Answer.{bit}
use Rattle.laws.specs.Sums.{sum_to}
use Rattle.notices.specs.Notices.{count_of, notice_at, hours_of}
use Rattle.notices.specs.declared.notices.Notice.{Notice}
use Rattle.power.proofs.CreditLaws.{credit_none, credit_nearest, credit_most}
use Rattle.power.proofs.EventLaws.{event_by_fault, reduction_by, reduced_at_lem, reduction_whole, reduced_agrees}
use Rattle.power.proofs.Exact.{accepted_iff_settles, settlement_tells, refused_untouched, refused_totals}
use Rattle.power.proofs.LineLaws.{code_is, place_is, energy_is, reduction_is, ready_fits}
use Rattle.power.proofs.RefusalLaws.{PowerSettles}
use Rattle.power.proofs.SettlementLaws.{number_is, settled_accepted, settles_ready, written_accepted}
use Rattle.power.specs.Credit.{credit_of}
use Rattle.power.specs.Lines.{power_line_numbers, power_lines_in, reduction_at, settled_at}
use Rattle.power.specs.Ready.{AllReady, Ready}
use Rattle.power.specs.Reduced.{Reduced, needed_of, reduced_of, reference_at, reduced_at}
use Rattle.power.specs.Refusals.{power_table}
use Rattle.power.specs.Settlement.{power_totals_of, power_settlement, power_written}
use Rattle.demands.specs.PowerDemand.{PowerLine, PowerCredit, PowerDemand}
use Rattle.demands.specs.PowerSheet.{PowerSheet, power_output}
use Rattle.demands.proofs.ByFault.{settled_exactly, settled_so, unsettled_so}

-- DEMAND 1: what refuses a call is told by its table, and a refusal writes nothing and has no totals
module _ (winter : ℕ) (book list references out : List ℕ) (totals : ℕ) where
  pub power_answers : Tells (power_table winter (length book) list references (length out) totals)
      (power_settlement winter book list references (length out) totals).number (power_settlement winter book list references (length out) totals).place
  power_answers = settlement_tells winter book list references (length out) totals

  module _ (refused : (power_settlement winter book list references (length out) totals).number ≡ 0 → ⊥) where
    pub power_writes_nothing : power_written winter book list references out totals ≡ out
    power_writes_nothing = refused_untouched winter book list references out totals refused

    pub power_no_totals : ((power_settlement winter book list references (length out) totals).sum ≡ 0)
        × ((power_settlement winter book list references (length out) totals).settled ≡ 0)
        × ((power_settlement winter book list references (length out) totals).cents ≡ 0)
    power_no_totals = refused_totals winter book list references out totals refused

-- DEMAND 2: accepted exactly when every rule is kept
pub power_lawful : (winter : ℕ) (book list references : List ℕ) (room totals : ℕ)
    → ((power_settlement winter book list references room totals).number ≡ 0) ↔ PowerSettles winter (length book) list references room totals
power_lawful = accepted_iff_settles

-- rule 11.2: what a line says goes by the readings of its event hours alone, which its notice names
pub power_needs : (book other list references : List ℕ) (k : ℕ)
    → Every (λ (p : ℕ). reading_at book p ≡ reading_at other p) (needed_of (notice_at list k))
    → reduced_at book list references k ≡ reduced_at other list references k
power_needs book other list references k agree =
    reduced_at_lem book list references k
    ∙ reduced_agrees book other (reference_at references k) (notice_at list k) agree
    ∙ sym (reduced_at_lem other list references k)

-- a line that says what its event comes to
line_says : (book : List ℕ) (reference : ℕ) (n : Notice) → Ready reference n → (code place energy reduction : ℕ)
    → code ≡ (reduced_of book reference n).event.code → place ≡ (reduced_of book reference n).event.place
    → energy ≡ (reduced_of book reference n).event.energy → reduction ≡ (reduced_of book reference n).reduction
    → PowerLine book reference n code place energy reduction
line_says book reference n ready code place energy reduction c p e r =
    let spared = reference * hours_of n - sum_over (reading_at book) (needed_of n) in
    let is = event_by_fault book reference n in
    record {
      settled_iff = rw (c, is) (settled_exactly book (needed_of n) spared);
      settled = rw (c, p, e, is) (settled_so book (needed_of n) spared);
      unsettled = rw (c, p, e, is) (unsettled_so book (needed_of n) spared);
      whole = rw (r, e, reduction_by book reference n) (reduction_whole n (reduced_of book reference n).event.energy ready.three ready.four);
    }

-- a sheet whose line k tells an event
pub record TellsEvent (s : PowerSheet) (k : ℕ) (r : Reduced) : Type 0 where
  pub code : s.code k ≡ r.event.code
  pub place : s.place k ≡ r.event.place
  pub energy : s.energy k ≡ r.event.energy
  pub reduction : s.reduction k ≡ r.reduction

-- the lines and totals of a sheet that tells the events of an accepted list
module _ (winter : ℕ) (book list references : List ℕ) (room totals : ℕ) (settles : PowerSettles winter (length book) list references room totals) where
  abbrev n : ℕ
  n = count_of list

  abbrev events : ℕ → Reduced
  events = reduced_at book list references

  pub ready : AllReady list references room n
  ready = settles_ready settles

  credit_so : PowerCredit (sum_to (reduction_at events) n) (sum_to (settled_at events) n)
      (credit_of (sum_to (reduction_at events) n) (sum_to (settled_at events) n))
  credit_so =
      record {
        none_settled = λ z. sym (credit_none (sum_to (reduction_at events) n) (sum_to (settled_at events) n) z);
        nearest = credit_nearest (sum_to (reduction_at events) n) (sum_to (settled_at events) n);
        most = credit_most (sum_to (reduction_at events) n) (sum_to (settled_at events) n) (ready_fits book list references ready n (omega arith));
      }

  pub sheet_demand : (s : PowerSheet) → s.lines ≡ n → ((k : ℕ) → k < n → TellsEvent s k (events k))
      → s.sum ≡ sum_to (reduction_at events) n → s.settled ≡ sum_to (settled_at events) n
      → s.cents ≡ credit_of (sum_to (reduction_at events) n) (sum_to (settled_at events) n)
      → PowerDemand book list references s
  sheet_demand s many tells sum settled cents =
      record {
        as_many = many;
        each = λ k h. let t = tells k h in
            let is = reduced_at_lem book list references k in
            line_says book (reference_at references k) (notice_at list k) (ready.each k h) (s.code k) (s.place k) (s.energy k) (s.reduction k)
            (t.code ∙ ap (λ (r : Reduced). r.event.code) is) (t.place ∙ ap (λ (r : Reduced). r.event.place) is)
            (t.energy ∙ ap (λ (r : Reduced). r.event.energy) is) (t.reduction ∙ ap (λ (r : Reduced). r.reduction) is);
        reductions = rw many
            (sum ∙ sym (run_same s.reduction (reduction_at events) 0 n (λ j b. (tells j (omega arith)).reduction) ∙ run_first (reduction_at events) n));
        count = rw many
            (settled
            ∙ sym
            (run_same (λ (k : ℕ). bit (eqb (s.code k) 0)) (settled_at events) 0 n (λ j b. rw (tells j (omega arith)).code) ∙ run_first (settled_at events) n));
        credit = rw (sum, settled, cents) credit_so;
      }

-- the lines and totals of an accepted settlement, on numbers
module _ (winter : ℕ) (book list references out : List ℕ) (totals : ℕ)
    (ok : (power_settlement winter book list references (length out) totals).number ≡ 0) where
  pub power_lines : PowerDemand book list references
      (power_output (count_of list) (power_written winter book list references out totals) (power_settlement winter book list references (length out) totals))
  power_lines =
      let settles = (accepted_iff_settles winter book list references (length out) totals).0 ok in
      let none = number_is winter book list references (length out) totals ok in
      let answer = settled_accepted winter book list references (length out) totals none in
      let rest = drop (power_line_numbers * count_of list) out in
      rw (written_accepted winter book list references out totals none, answer)
      (sheet_demand winter book list references (length out) totals settles
      (power_output (count_of list) (power_lines_in (reduced_at book list references) (count_of list) out)
      (power_totals_of (reduced_at book list references) (count_of list)))
      refl
      (λ k h. record {
        code = code_is (reduced_at book list references) rest (count_of list) k h;
        place = place_is (reduced_at book list references) rest (count_of list) k h;
        energy = energy_is (reduced_at book list references) rest (count_of list) k h;
        reduction = reduction_is (reduced_at book list references) rest (count_of list) k h;
      })
      refl refl refl)
