-- The hours of an event lie in a band where it is not refused, and all that the code holds lie in the day; a sum over the warm-up hours is that
-- over their runs, and there are two or three of them.
-- Assumes nothing.
use Prim.Native.Nat.{ℕ, ◌+◌, ◌-◌, ◌*◌, ◌%◌, ◌^◌, ◌≤◌, ◌<◌}
use mathlib.Core.Bool.{Bool, true, false, cond}
use mathlib.Core.List.{List, ◌++◌}
use mathlib.Core.Logic.{⊎_elim}
use mathlib.Core.Path.{◌≡◌}
use native.Mathlib.Omega.{arith}
use lib.Dec.{ltb}
use lib.ListN.{length, length-append}
use Rattle.std.specs.Prelude.{Option}
use Rattle.book.proofs.FirstFault.{fault_among}
use Rattle.book.proofs.RunLaws.{run_long, run_below}
use Rattle.book.proofs.SumLaws.{sum_joined}
use Rattle.book.specs.Places.{InDay}
use Rattle.book.specs.Readings.{first_fault, sum_over}
use Rattle.book.specs.Values.{AtPlace}
use Rattle.book.specs.declared.values.Fault.{Fault}
use Rattle.calendar.specs.declared.answers.Winter.{Winter}
use Rattle.laws.proofs.Every.{Every, joined, imply}
use Rattle.notices.proofs.HourLaws.{Inside, hours_iff}
use Rattle.notices.proofs.ProfileLaws.{credit_figures}
use Rattle.notices.specs.Hours.{bad_hours}
use Rattle.notices.specs.Profiles.{credit, figures_of}
use Rattle.notices.specs.declared.notices.Notice.{Notice}
use Rattle.notices.specs.declared.profiles.Figures.{Figures}
use Rattle.notices.specs.declared.profiles.Profile.TheVariants.{Credit}
use Rattle.references.proofs.WarmUpLaws.{warm_long, warm_before}
use Rattle.references.specs.WarmUp.{warm_up}
use Rattle.energy.specs.HoursOf.{Spans, RunIn, HoursIn, run_hours, warm_run, event_run, warm_count}
use Rattle.energy.specs.Ready.{WarmSum}
use Rattle.energy.specs.declared.hours.Hours.{Hours}
use Rattle.energy.specs.declared.hours.Run.{Run}

-- hours that are not refused under the winter credit lie in a band (rules 4.12 and 4.28)
pub in_band : (f : Figures) (n : Notice) → f ≡ figures_of Credit → bad_hours f n ≡ false → Spans n.start n.end
in_band f n is e =
    let rule = (hours_iff credit n).0 (rw (← credit_figures, ← is) e) in
    let some = rule.0 in
    ⊎_elim
    (λ (m : Inside credit.morning n). record { late = m.from; some_hour = some; few = omega arith; in_day = omega arith })
    (λ (m : Inside credit.evening n). record { late = omega arith; some_hour = some; few = omega arith; in_day = m.to })
    rule.1

-- the warm-up and the event hours that the code holds are hours of the day
module _ (hours : Hours) (inside : HoursIn hours) where
  in_run : (r : Run) → RunIn r → Every InDay (run_hours r)
  in_run r i = run_below r.from r.to i.in_order i.in_day

  pub warm_hours : Every InDay (warm_run hours)
  warm_hours =
      joined InDay (run_hours hours.early) (run_hours hours.warm) (in_run hours.early inside.early_in) (in_run hours.warm inside.warm_in)

  pub event_hours_lem : Every InDay (event_run hours)
  event_hours_lem = in_run hours.event inside.event_within

-- and so a fault among them is told at one
pub hours_told_lem : (part : List ℕ) (hours : Hours) → HoursIn hours → {f : Option Fault}
    → f ≡ first_fault part (warm_run hours ++ event_run hours)
    → AtPlace InDay f
hours_told_lem part hours inside e =
    rw e
    (fault_among part InDay (warm_run hours ++ event_run hours)
    (joined InDay (warm_run hours) (event_run hours) (warm_hours hours inside) (event_hours_lem hours inside)))

-- there are W of them
pub warm_counted : (hours : Hours) → length (warm_run hours) ≡ warm_count hours
warm_counted hours =
    rw (
      length-append (run_hours hours.early) (run_hours hours.warm),
      run_long hours.early.from hours.early.to,
      run_long hours.warm.from hours.warm.to,
    )

-- a sum over them is that over their two runs
pub warm_sum : (f : ℕ → ℕ) (hours : Hours) {early warm : ℕ}
    → early ≡ sum_over f (run_hours hours.early) → early < 2 ^ 40
    → warm ≡ sum_over f (run_hours hours.warm) → warm < 2 ^ 40
    → WarmSum f hours (early + warm)
warm_sum f hours early-is early-small warm-is warm-small = record {
  is = rw (sum_joined f (run_hours hours.early) (run_hours hours.warm), ← early-is, ← warm-is);
  small = omega arith;
}

-- the warm-up hours are hours of the day
pub warm_below : (w : Winter) (day s : ℕ) → s ≤ 20 → Every InDay (warm_up w day s)
warm_below w day s b = imply _ InDay (λ h l. omega arith) (warm_up w day s) (warm_before w day s)

-- 6H/W is a whole number for every event: there are two or three warm-up hours
pub whole_factor : (w : Winter) (day s h : ℕ) → 6 ≤ s → 6 * h % length (warm_up w day s) ≡ 0
whole_factor w day s h least = rw (warm_long w day s least) (by (ltb s credit.evening.start))
  where
    by : (m : Bool) → 6 * h % (cond m 5 4 - 2) ≡ 0
    by true = omega arith
    by false = omega arith
