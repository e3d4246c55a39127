-- The numbers of an accepted settlement's lines fit 64 bits: codes and places by what a line can say, energies by the largest, and cents by the
-- worth of all of them at the highest price.
-- Assumes nothing.
use Prim.Native.Nat.{ℕ, suc, ◌^◌, ◌≤◌, ◌<◌}
use mathlib.Core.List.{List}
use mathlib.Core.Path.{◌≡◌, sym, ap}
use native.Mathlib.Omega.{arith}
use lib.ListN.{length}
use Rattle.calendar.specs.WinterOf.{winter_of}
use Rattle.credit.proofs.Demands.{line_is_answer, no_line_negative, energies_add_up}
use Rattle.credit.proofs.Exact.{Settles, accepted_iff_settles}
use Rattle.credit.proofs.LineLaws.{energy_same, total_few}
use Rattle.credit.proofs.SettlementLaws.{number_is, settled_accepted}
use Rattle.credit.specs.Settlement.{settlement, written}
use Rattle.credit.specs.Settlement.{Settlement}
use Rattle.dates.proofs.Promise.{days_range}
use Rattle.energy.proofs.CallLaws.{event_given}
use Rattle.energy.proofs.EventLaws.{needed_in, answer_most}
use Rattle.energy.proofs.WhyUnsettled.{line_small}
use Rattle.energy.specs.Asked.{Asked, asked_by}
use Rattle.energy.specs.Line.{EventAnswer, line_of, event_answer}
use Rattle.energy.specs.Event.{Event}
use Rattle.event_hours.specs.Days.{masks_of}
use Rattle.laws.proofs.SumLaws.{run_first, sum_grows}
use Rattle.laws.specs.Bounds.{largest_energy}
use Rattle.laws.specs.Sums.{run_of}
use Rattle.money.proofs.WorthLaws.{worth_nearest, worth_fits}
use Rattle.money.specs.Worth.{most_energy}
use Rattle.notices.specs.Notices.{count_of, notice_at}
use Rattle.notices.specs.Profiles.{figures_of}
use Rattle.notices.specs.declared.notices.Notice.{Notice}
use Rattle.notices.specs.declared.profiles.Profile.TheVariants.{Credit}
use Rattle.references.specs.ReferenceDays.{free_in}
use Rattle.schedule.proofs.Accepted.{accepted_iff_lawful}
use Rattle.schedule.proofs.Standing.{Standing}
use Rattle.schedule.proofs.Together.{accepted_standing}
use Rattle.settlement.proofs.EventLaws.{energies_bounded, same_event}
use Rattle.settlement.specs.Events.{event_at, event_in}
use Rattle.demands.specs.Faces.{Sheet, in_output}

pub record SmallLine (s : Sheet) (k : ℕ) : Type 0 where
  pub code : s.code k < 2 ^ 64
  pub place : s.place k < 2 ^ 64
  pub energy : s.energy k < 2 ^ 64
  pub cents : s.cents k < 2 ^ 64

module _ (winter price : ℕ) (book list out : List ℕ) (ok : (settlement winter book price list (length out)).number ≡ 0) where
  abbrev n : ℕ
  n = count_of list

  abbrev sheet : Sheet
  sheet = in_output n (written winter book price list out)

  settles : Settles winter (length book) price list (length out)
  settles = (accepted_iff_settles winter price book list (length out)).0 ok

  standing : Standing winter (figures_of Credit) list
  standing = accepted_standing winter Credit list ((accepted_iff_lawful winter Credit list).1 settles.list)

  -- a line's event is that of its notice
  module _ (k : ℕ) (h : k < n) where
    abbrev notice : Notice
    notice = notice_at list k

    abbrev asked : Asked
    asked = asked_by (winter_of winter) (free_in (masks_of list)) notice

    is : ◌≡◌ {A = Event} (record { code = sheet.code k; place = sheet.place k; energy = sheet.energy k }) (line_of book asked)
    is = line_is_answer winter price book list out ok k h

    given : event_answer (winter_of winter) book (masks_of list) notice ≡ record { number = 0; event = line_of book asked }
    given = event_given winter book (masks_of list) notice settles.book (settles.list.each k h)

    code_place : ((line_of book asked).code ≤ 22) × ((line_of book asked).place < length book)
    code_place =
        line_small book asked (length book) (omega (arith, settles.book, days_range winter))
        (needed_in (winter_of winter) book (masks_of list) notice (ap (λ (a : EventAnswer). a.number) given))

    energy_most : sheet.energy k ≤ largest_energy
    energy_most =
        omega (
          arith,
          ap (λ (e : Event). e.energy) is,
          ap (λ (a : EventAnswer). a.event.energy) given,
          answer_most (winter_of winter) book (masks_of list) notice,
        )

  total_most : (settlement winter book price list (length out)).energy ≤ most_energy
  total_most =
      let at = event_at winter book list in
      let held = event_in (winter_of winter) book (masks_of list) list in
      let same = energy_same at held n (λ k h. sym (same_event standing book k h)) in
      let few = total_few held (energies_bounded (winter_of winter) book (masks_of list) list) n settles.list.few in
      let is = ap (λ (s : Settlement). s.energy) (settled_accepted winter price book list (length out) (number_is winter price book list (length out) ok)) in
      omega (arith, is, same, few)

  cents_most : (k : ℕ) → k < n → sheet.cents k < 2 ^ 64
  cents_most k h =
      let energy = run_of sheet.energy 0 (suc k) in
      let few : energy ≤ most_energy = omega (
        arith,
        run_first sheet.energy (suc k),
        run_first sheet.energy n,
        sum_grows sheet.energy n (suc k) h,
        energies_add_up winter price book list out ok,
        total_most,
      ) in
      omega (arith, no_line_negative winter price book list out ok k h, (worth_nearest price energy).above, worth_fits price energy settles.price.most few)

  pub line_fits : (k : ℕ) → k < n → SmallLine sheet k
  line_fits k h =
      let small = code_place k h in
      record {
        code = omega (arith, ap (λ (e : Event). e.code) (is k h), small);
        place = omega (arith, ap (λ (e : Event). e.place) (is k h), small, settles.book, days_range winter);
        energy = omega (arith, energy_most k h);
        cents = cents_most k h;
      }
