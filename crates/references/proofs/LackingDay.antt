-- One day at most lacks a warm-up hour: the Sunday the clocks go forward, for an event of a later day whose warm-up names the hour that is passed
-- over. Every other day has each hour.
-- Assumes nothing.
use Prim.Native.Nat.{ℕ, ◌+◌, ◌-◌, ◌≤◌, ◌<◌}
use mathlib.Core.Bool.{Bool, true, false, not, cond, ◌&&◌, ◌||◌}
use mathlib.Core.List.{List, [], ◌∷◌, ◌++◌}
use mathlib.Core.Logic.{◌⊎◌, inl, inr}
use mathlib.Core.Path.{◌≡◌, refl, sym, ◌∙◌}
use native.Mathlib.Omega.{arith}
use lib.Dec.{leb, ltb, eqb}
use borrow.Author.Tests.{eqb-true, eqb-false, leb-true, ltb-true, ltb-false}
use Rattle.std.specs.Option.{option_eq}
use Rattle.std.specs.Prelude.{Option, Some, None}
use Rattle.book.proofs.RunLaws.{run_each, run_more, run_split}
use Rattle.book.specs.Places.{run}
use Rattle.calendar.proofs.Answered.{forward_known}
use Rattle.calendar.proofs.ClockLaws.{forward_sunday, every_hour, other_hour, no_hour}
use Rattle.calendar.specs.Answers.{change_paper, forward_day}
use Rattle.calendar.specs.Clocks.{clocks_forward, passed_hour, has_hour}
use Rattle.calendar.specs.Days.{wrong_winter, march_eighth}
use Rattle.calendar.specs.declared.answers.Winter.{Winter}
use Rattle.laws.proofs.Every.{Every, all, imply}
use Rattle.laws.proofs.Guards.{both, neither}
use Rattle.references.specs.ReferenceDays.{has_each}
use Rattle.references.specs.Search.{none_lacks, lacking_day, BookDay}
use Rattle.references.specs.WarmUp.{longest_ahead, warm_up}
use Rattle.references.proofs.Ahead.{morning_ahead, ahead_range}
use Rattle.references.proofs.WarmUpLaws.{usual_hours}

-- a day has some hours: each of them
module _ (w : Winter) (d : ℕ) where
  abbrev pub HasHours : List ℕ → Type 0
  HasHours hours = Every (λ (h : ℕ). has_hour w d h ≡ true) hours

  pub each_had : (hours : List ℕ) → has_each w d hours ≡ true → HasHours hours
  unfolding has_each
  each_had [] e = tt
  each_had (h ∷ hours) e = let has = both (has_hour w d h) (has_each w d hours) e in (has.0, each_had hours has.1)

  pub had_each : (hours : List ℕ) → HasHours hours → has_each w d hours ≡ true
  unfolding has_each
  had_each [] has = refl
  had_each (h ∷ hours) has = rw has.0 (had_each hours has.1)

-- where it has every hour, and where they do not name the passed one
module _ (w : Winter) (d : ℕ) where
  pub has_all : (hours : List ℕ) → (d ≡ clocks_forward w → ⊥) → has_each w d hours ≡ true
  has_all hours other = had_each w d hours (all _ (λ (h : ℕ). every_hour w d h other) hours)

  has_others : (hours : List ℕ) → Every (λ (h : ℕ). h ≡ passed_hour → ⊥) hours → has_each w d hours ≡ true
  has_others hours none = had_each w d hours (imply _ _ (λ h n. other_hour w d h n) hours none)

  -- it lacks one where they do
  lacks_passed : d ≡ clocks_forward w → (xs ys : List ℕ) → has_each w d (xs ++ passed_hour ∷ ys) ≡ false
  unfolding has_each
  lacks_passed e [] ys = rw (no_hour w d e)
  lacks_passed e (x ∷ xs) ys = rw (lacks_passed e xs ys) (and_false (has_hour w d x))
    where
      and_false : (b : Bool) → (b && false) ≡ false
      and_false true = refl
      and_false false = refl

  run_lacks : d ≡ clocks_forward w → (from to : ℕ) → from ≤ passed_hour → passed_hour < to → has_each w d (run from to) ≡ false
  run_lacks e from to f t =
      rw (run_split from passed_hour to f (omega arith), run_more passed_hour to t) (lacks_passed e (run from passed_hour) (run (passed_hour + 1) to))

-- the test of an event: the hour is named and its day is late enough, or not
module _ (w : Winter) (day s : ℕ) where
  abbrev May : Type 0
  May = (passed_hour + 3 ≤ s) × (s ≤ passed_hour + 5)

  may_lack : none_lacks w day s ≡ false → May
  unfolding none_lacks
  may_lack e =
      let outer = neither (ltb s (passed_hour + 3) || ltb (passed_hour + 5) s) (leb day (march_eighth w.days)) e in
      let inner = neither (ltb s (passed_hour + 3)) (ltb (passed_hour + 5) s) outer.0 in
      (ltb-false s (passed_hour + 3) inner.0, ltb-false (passed_hour + 5) s inner.1)

  none_lack : none_lacks w day s ≡ true → (s < passed_hour + 3) ⊎ ((passed_hour + 5 < s) ⊎ (day ≤ march_eighth w.days))
  unfolding none_lacks
  none_lack e = by (ltb s (passed_hour + 3)) refl (ltb (passed_hour + 5) s) refl e
    where
      by : (a : Bool) → ltb s (passed_hour + 3) ≡ a → (b : Bool) → ltb (passed_hour + 5) s ≡ b
          → (a || b || leb day (march_eighth w.days)) ≡ true
          → (s < passed_hour + 3) ⊎ ((passed_hour + 5 < s) ⊎ (day ≤ march_eighth w.days))
      by true p b q z = inl (ltb-true s (passed_hour + 3) p)
      by false p true q z = inr (inl (ltb-true (passed_hour + 5) s q))
      by false p false q z = inr (inr (leb-true day (march_eighth w.days) z))

  -- the day that lacks one as the code finds it: none, or the calendar's answer r
  pub lacking_none : none_lacks w day s ≡ true → None ≡ lacking_day w day s
  unfolding lacking_day
  lacking_none t = rw t

  pub lacking_sunday : wrong_winter w ≡ false → none_lacks w day s ≡ false → {r : Option ℕ} → change_paper r ≡ forward_day w
      → r ≡ lacking_day w day s
  unfolding lacking_day
  lacking_sunday right t e = rw t (forward_known w right e)

-- of an event on a later day: that Sunday lacks an hour exactly where the start names it
module _ (w : Winter) (day s : ℕ) (right : wrong_winter w ≡ false) (later : clocks_forward w < day) where
  abbrev hours : List ℕ
  hours = run (s - longest_ahead s) (s - 2)

  hours_are : warm_up w day s ≡ hours
  hours_are = usual_hours w day s (λ (e : day ≡ clocks_forward w). omega arith)

  named : none_lacks w day s ≡ false → has_each w (clocks_forward w) hours ≡ false
  named t =
      let p = may_lack w day s t in
      run_lacks w (clocks_forward w) refl _ _ (omega (arith, p, morning_ahead s (omega (arith, p)))) (omega (arith, p))

  unnamed : none_lacks w day s ≡ true → has_each w (clocks_forward w) hours ≡ true
  unnamed t = has_others w (clocks_forward w) hours (run_each _ (s - longest_ahead s) (s - 2) (λ x from to e. none x from to e (none_lack w day s t)))
    where
      none : (x : ℕ) → s - longest_ahead s ≤ x → x < s - 2 → x ≡ passed_hour
          → (s < passed_hour + 3) ⊎ ((passed_hour + 5 < s) ⊎ (day ≤ march_eighth w.days)) → ⊥
      none x from to e (inl b) = omega arith
      none x from to e (inr (inl b)) = omega (arith, ahead_range s)
      none x from to e (inr (inr b)) = omega (arith, (forward_sunday w right).not_before)

  sunday_has : has_each w (clocks_forward w) (warm_up w day s) ≡ none_lacks w day s
  sunday_has = rw hours_are (by (none_lacks w day s) refl)
    where
      by : (b : Bool) → none_lacks w day s ≡ b → has_each w (clocks_forward w) hours ≡ b
      by true t = unnamed t
      by false t = named t

-- so a day has the warm-up hours exactly where it is not that one
pub has_warm_up : (w : Winter) (day s d : ℕ) → BookDay w day → d < day
    → has_each w d (warm_up w day s) ≡ not (option_eq eqb (lacking_day w day s) (Some d))
unfolding lacking_day
has_warm_up w day s d book_day earlier = by (eqb (clocks_forward w) d) refl (none_lacks w day s) refl
  where
    at_sunday : clocks_forward w ≡ d → has_each w d (warm_up w day s) ≡ none_lacks w day s
    at_sunday is = rw (← is) (sunday_has w day s book_day.right (omega arith))

    other : eqb (clocks_forward w) d ≡ false → has_each w d (warm_up w day s) ≡ true
    other e = has_all w d (warm_up w day s) (λ (q : d ≡ clocks_forward w). eqb-false (clocks_forward w) d e (sym q))

    by : (b : Bool) → eqb (clocks_forward w) d ≡ b → (t : Bool) → none_lacks w day s ≡ t
        → has_each w d (warm_up w day s) ≡ not (option_eq eqb (cond t None (Some (clocks_forward w))) (Some d))
    by false e true q = other e
    by false e false q = rw e (other e)
    by true e true q = at_sunday (eqb-true (clocks_forward w) d e) ∙ q
    by true e false q = rw e (at_sunday (eqb-true (clocks_forward w) d e) ∙ q)
