-- The warm-up hours are the tabled ones. On every day but the Sunday the clocks go forward, and there from a start at 8 on, they are a run that
-- ends two hours before the start; there the starts 6 and 7 have two runs, before and behind the hour that is passed over.
-- Assumes nothing.
use Prim.Native.Nat.{ℕ, ◌+◌, ◌-◌, ◌≤◌, ◌<◌}
use mathlib.Core.Bool.{Bool, true, false}
use mathlib.Core.List.{List, ◌++◌}
use mathlib.Core.Logic.{⊎_elim}
use mathlib.Core.Path.{◌≡◌, refl}
use native.Mathlib.Nat.{eq-or-lt_of_le}
use native.Mathlib.Omega.{arith}
use lib.Dec.{eqb}
use lib.ListN.{length, length-append}
use borrow.Author.Tests.{eqb-true, eqb-false}
use Rattle.book.proofs.RunLaws.{run_each, run_split, run_long}
use Rattle.book.specs.Places.{run}
use Rattle.calendar.proofs.ClockLaws.{every_hour, other_hour, no_hour, elapsed_clock, elapsed_over}
use Rattle.calendar.specs.Clocks.{clocks_forward, passed_hour, has_hour, elapsed}
use Rattle.calendar.specs.declared.answers.Winter.{Winter}
use Rattle.laws.proofs.Every.{Every, imply}
use Rattle.laws.proofs.Order.{either_order}
use Rattle.references.specs.WarmUp.{longest_ahead, warms_up, warm_up}
use Rattle.references.proofs.Ahead.{morning_ahead, ahead_range, warms, too_early, too_late, lacking, warms_there}
use Rattle.references.proofs.Those.{those_split, those_each, those_pass, one_run}

-- a day that has every hour: by the clock
module _ (w : Winter) (day s : ℕ) (other : day ≡ clocks_forward w → ⊥) where
  by_clock : (h : ℕ) → elapsed w day h s ≡ s - h
  by_clock h = elapsed_clock w day h s (λ x from to. every_hour w day x other)

  pub usual_hours : warm_up w day s ≡ run (s - longest_ahead s) (s - 2)
  unfolding warm_up
  usual_hours =
      one_run (warms_up w day s) 0 (s - longest_ahead s) (s - 2) s (omega arith) (omega (arith, ahead_range s)) (omega arith)
      (λ x from to. too_early w day s x (omega (arith, by_clock x, ahead_range s)))
      (λ x from to. warms w day s x (every_hour w day x other) (omega (arith, by_clock x)) (omega (arith, by_clock x)))
      (λ x from to. too_late w day s x (omega (arith, by_clock x)))

-- the Sunday the clocks go forward
module _ (w : Winter) (day s : ℕ) (forward : day ≡ clocks_forward w) where
  behind : (h : ℕ) → passed_hour < h → elapsed w day h s ≡ s - h
  behind h b = elapsed_clock w day h s (λ x from to. other_hour w day x (λ (e : x ≡ passed_hour). omega arith))

  over : (h : ℕ) → h ≤ passed_hour → passed_hour < s → elapsed w day h s + 1 ≡ s - h
  over h b late = elapsed_over w day h s forward b late

  -- an hour up to the passed one is none of a start at 8 or later
  up_to_passed : 8 ≤ s → (h : ℕ) → h ≤ passed_hour → warms_up w day s h ≡ false
  up_to_passed late h b =
      ⊎_elim (λ (e : h ≡ passed_hour). lacking w day s h (rw e (no_hour w day forward)))
      (λ (l : h < passed_hour). too_early w day s h (omega (arith, over h b (omega arith), ahead_range s)))
      (eq-or-lt_of_le b)

  late_hours : 8 ≤ s → warm_up w day s ≡ run (s - longest_ahead s) (s - 2)
  unfolding warm_up
  late_hours late =
      one_run (warms_up w day s) 0 (s - longest_ahead s) (s - 2) s (omega arith) (omega (arith, ahead_range s)) (omega arith)
      (λ x from to.
      ⊎_elim (λ (b : passed_hour < x). too_early w day s x (omega (arith, behind x b, ahead_range s)))
      (λ (b : x ≤ passed_hour). up_to_passed late x b)
      (either_order passed_hour x))
      (λ x from to.
      let b : passed_hour < x = omega (arith, ahead_range s) in
      warms w day s x (other_hour w day x (λ (e : x ≡ passed_hour). omega arith)) (omega (arith, behind x b)) (omega (arith, behind x b)))
      (λ x from to. too_late w day s x (omega (arith, behind x (omega arith))))

  -- two runs, around the passed hour
  pub around_passed : 6 ≤ s → s ≤ 7 → warm_up w day s ≡ run (s - 6) passed_hour ++ run (passed_hour + 1) (s - 2)
  unfolding warm_up
  around_passed least most =
      let five = morning_ahead s (omega arith) in
      rw (run_split 0 (passed_hour + 1) s (omega arith) (omega arith), those_split (warms_up w day s) (run 0 (passed_hour + 1)) (run (passed_hour + 1) s))
      (ap2
      (one_run (warms_up w day s) 0 (s - 6) passed_hour (passed_hour + 1) (omega arith) (omega arith) (omega arith)
      (λ x from to. too_early w day s x (omega (arith, five, over x (omega arith) (omega arith))))
      (λ x from to.
      warms w day s x (other_hour w day x (λ (e : x ≡ passed_hour). omega arith)) (omega (arith, over x (omega arith) (omega arith)))
      (omega (arith, five, over x (omega arith) (omega arith))))
      (λ x from to. let e : x ≡ passed_hour = omega arith in lacking w day s x (rw e (no_hour w day forward))))
      (one_run (warms_up w day s) (passed_hour + 1) (passed_hour + 1) (s - 2) s (omega arith) (omega arith) (omega arith)
      (λ x from to. absurd (omega arith))
      (λ x from to.
      warms w day s x (other_hour w day x (λ (e : x ≡ passed_hour). omega arith)) (omega (arith, behind x (omega arith)))
      (omega (arith, five, behind x (omega arith))))
      (λ x from to. too_late w day s x (omega (arith, behind x (omega arith))))))
    where
      ap2 : {a b c d : List ℕ} → a ≡ b → c ≡ d → a ++ c ≡ b ++ d
      ap2 p q = rw (p, q)

-- on any day: the one run where the passed hour is not between, as many hours as ever, and each of them before the start
pub warm_run_lem : (w : Winter) (day s : ℕ) → (day ≡ clocks_forward w → 8 ≤ s) → warm_up w day s ≡ run (s - longest_ahead s) (s - 2)
warm_run_lem w day s late = by (eqb day (clocks_forward w)) refl
  where
    by : (b : Bool) → eqb day (clocks_forward w) ≡ b → warm_up w day s ≡ run (s - longest_ahead s) (s - 2)
    by true e = let forward = eqb-true day (clocks_forward w) e in late_hours w day s forward (late forward)
    by false e = usual_hours w day s (eqb-false day (clocks_forward w) e)

pub warm_long : (w : Winter) (day s : ℕ) → 6 ≤ s → length (warm_up w day s) ≡ longest_ahead s - 2
warm_long w day s least = by (eqb day (clocks_forward w)) refl
  where
    one : warm_up w day s ≡ run (s - longest_ahead s) (s - 2) → length (warm_up w day s) ≡ longest_ahead s - 2
    one e = rw (e, run_long (s - longest_ahead s) (s - 2)) (omega (arith, ahead_range s))

    by : (b : Bool) → eqb day (clocks_forward w) ≡ b → length (warm_up w day s) ≡ longest_ahead s - 2
    by false e = one (usual_hours w day s (eqb-false day (clocks_forward w) e))
    by true e =
        let forward = eqb-true day (clocks_forward w) e in
        ⊎_elim
        (λ (b : s < 8).
        rw (
          around_passed w day s forward least (omega arith),
          length-append (run (s - 6) passed_hour) (run (passed_hour + 1) (s - 2)),
          run_long (s - 6) passed_hour,
          run_long (passed_hour + 1) (s - 2),
          morning_ahead s (omega arith),
        )
        (omega arith))
        (λ (b : 8 ≤ s). one (late_hours w day s forward b))
        (either_order s 8)

-- each is an hour that the day has
pub warm_there : (w : Winter) (day s : ℕ) → Every (λ (h : ℕ). has_hour w day h ≡ true) (warm_up w day s)
unfolding warm_up
warm_there w day s = imply _ _ (λ h t. warms_there w day s h t) (warm_up w day s) (those_pass (warms_up w day s) (run 0 s))

pub warm_before : (w : Winter) (day s : ℕ) → Every (λ (h : ℕ). h < s) (warm_up w day s)
unfolding warm_up
warm_before w day s = those_each (warms_up w day s) (λ (h : ℕ). h < s) (run 0 s) (run_each _ 0 s (λ x from to. to))
