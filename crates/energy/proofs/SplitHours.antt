-- The hours of an event as the code holds them are those of rules 5.1, 5.2 and 5.3: its warm-up hours, around the passed hour where that lies
-- between and else in one run, and then the event's own.
-- Assumes nothing.
use Prim.Native.Nat.{ℕ, ◌+◌, ◌-◌, ◌≤◌}
use mathlib.Core.Bool.{Bool, true, false, ◌&&◌, ◌||◌}
use mathlib.Core.Path.{◌≡◌, refl, sym}
use native.Mathlib.Omega.{arith}
use lib.Dec.{leb, ltb, eqb}
use borrow.Author.Tests.{le-leb, lt-leb, leb-true, leb-false, ltb-true, ltb-false, eqb-true, eqb-false, eq-eqb, ne_eqb}
use Rattle.book.proofs.RunLaws.{run_from, run_none}
use Rattle.calendar.proofs.Promise.{days_few}
use Rattle.calendar.proofs.Answered.{forward_on, forward_told}
use Rattle.std.specs.Option.{option_eq}
use Rattle.std.specs.Prelude.{Option, Some, None}
use Rattle.calendar.proofs.ClockLaws.{forward_sunday}
use Rattle.calendar.specs.Answers.{change_paper, forward_day}
use Rattle.calendar.specs.Clocks.{clocks_forward, passed_hour}
use Rattle.calendar.specs.Days.{wrong_winter, march_eighth}
use Rattle.calendar.specs.declared.answers.Winter.{Winter}
use Rattle.laws.proofs.Guards.{both, neither}
use Rattle.references.proofs.Ahead.{ahead_range}
use Rattle.references.proofs.WarmUpLaws.{around_passed, warm_run_lem}
use Rattle.references.specs.WarmUp.{longest_ahead}
use Rattle.energy.specs.HoursOf.{Spans, HoursFor, is_split}
use Rattle.energy.specs.declared.hours.Run.{Run}

-- whether the passed hour lies between
module _ (w : Winter) (day s : ℕ) where
  split_so : is_split w day s ≡ true → (s ≤ passed_hour + 5) × (day ≡ clocks_forward w)
  unfolding is_split
  split_so e =
      let p = both (leb s (passed_hour + 5)) (eqb day (clocks_forward w)) e in
      (leb-true s (passed_hour + 5) p.0, eqb-true day (clocks_forward w) p.1)

  whole_so : is_split w day s ≡ false → day ≡ clocks_forward w → 8 ≤ s
  unfolding is_split
  whole_so e forward = leb-false s (passed_hour + 5) (by (leb s (passed_hour + 5)) (rw (eq-eqb day (clocks_forward w) forward) at e))
    where
      by : (b : Bool) → (b && true) ≡ false → b ≡ false
      by true z = z
      by false z = refl

  -- as the code finds it: never of a late start or an early day, else by the calendar's answer r
  pub never_split : wrong_winter w ≡ false → (ltb (passed_hour + 5) s || ltb day (march_eighth w.days)) ≡ true → false ≡ is_split w day s
  unfolding is_split
  never_split right e = by (ltb (passed_hour + 5) s) refl e
    where
      and_false : (b : Bool) → false ≡ (b && false)
      and_false true = refl
      and_false false = refl

      by : (b : Bool) → ltb (passed_hour + 5) s ≡ b → (b || ltb day (march_eighth w.days)) ≡ true
          → false ≡ (leb s (passed_hour + 5) && eqb day (clocks_forward w))
      by true q z = rw (lt-leb s (passed_hour + 5) (ltb-true (passed_hour + 5) s q))
      by false q z =
          let early = ltb-true day (march_eighth w.days) z in
          rw (ne_eqb day (clocks_forward w) (λ (e : day ≡ clocks_forward w). omega (arith, (forward_sunday w right).not_before)))
          (and_false (leb s (passed_hour + 5)))

  pub early_days : wrong_winter w ≡ false → 24 ≤ w.days
  early_days right = omega (arith, days_few w right)

  pub split_sunday : wrong_winter w ≡ false → (ltb (passed_hour + 5) s || ltb day (march_eighth w.days)) ≡ false
      → (r : Option ℕ) → change_paper r ≡ forward_day w → option_eq eqb r (Some day) ≡ is_split w day s
  unfolding is_split
  split_sunday right early r e =
      let p = neither (ltb (passed_hour + 5) s) (ltb day (march_eighth w.days)) early in
      rw (le-leb s (passed_hour + 5) (ltb-false (passed_hour + 5) s p.0)) (by r e)
    where
      turned : (a b : ℕ) → eqb a b ≡ eqb b a
      turned a b = either (eqb b a) refl
        where
          either : (t : Bool) → eqb b a ≡ t → eqb a b ≡ t
          either true e = eq-eqb a b (sym (eqb-true b a e))
          either false e = ne_eqb a b (λ (h : a ≡ b). eqb-false b a e (sym h))

      by : (r : Option ℕ) → change_paper r ≡ forward_day w → option_eq eqb r (Some day) ≡ eqb day (clocks_forward w)
      by None e = absurd (forward_told w right refl e)
      by (Some forward) e = rw (forward_on w right refl e) (turned (clocks_forward w) day)

-- a run by its two ends
abbrev as_run : ℕ → ℕ → Run
as_run from to = record { from = from; to = to }

-- the hours that the code holds are those of the event
module _ (w : Winter) (day s e : ℕ) (p : Spans s e) where
  pub split_hours : is_split w day s ≡ true
      → HoursFor w day s e (record { early = as_run (s - 6) passed_hour; warm = as_run (passed_hour + 1) (s - 2); event = as_run s e })
  split_hours split =
      let so = split_so w day s split in
      record {
        warm_are = sym (around_passed w day s so.1 p.late so.0);
        event_are = run_from s e (e - s) refl;
        inside = record {
          early_in = record { in_order = omega (arith, so.0); in_day = omega arith };
          warm_in = record { in_order = omega arith; in_day = omega arith };
          two_warm = omega (arith, so.0);
          event_within = record { in_order = omega arith; in_day = omega arith };
          few_event = omega arith;
        };
      }

  pub whole_hours : is_split w day s ≡ false → (from : ℕ) → from ≡ s - longest_ahead s
      → HoursFor w day s e (record { early = as_run from from; warm = as_run from (s - 2); event = as_run s e })
  whole_hours whole from is =
      record {
        warm_are = rw (run_none from from (omega arith), is) (sym (warm_run_lem w day s (whole_so w day s whole)));
        event_are = run_from s e (e - s) refl;
        inside = record {
          early_in = record { in_order = omega arith; in_day = omega (arith, is) };
          warm_in = record { in_order = omega (arith, is, ahead_range s); in_day = omega arith };
          two_warm = omega (arith, is, ahead_range s);
          event_within = record { in_order = omega arith; in_day = omega arith };
          few_event = omega arith;
        };
      }
