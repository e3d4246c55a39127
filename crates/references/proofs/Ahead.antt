-- How far ahead of the start the first warm-up hour begins, by the band; and whether an hour is one, by how many elapsed hours it is ahead.
-- Assumes nothing.
use Prim.Native.Nat.{ℕ, ◌≤◌, ◌<◌}
use mathlib.Core.Bool.{Bool, true, false, cond, ◌&&◌}
use mathlib.Core.Path.{◌≡◌, refl}
use native.Mathlib.Omega.{arith}
use lib.Dec.{leb, ltb}
use borrow.Author.Tests.{le-leb, lt-leb, lt-ltb, le-ltb}
use Rattle.calendar.specs.Clocks.{has_hour, elapsed}
use Rattle.calendar.specs.declared.answers.Winter.{Winter}
use Rattle.laws.proofs.Guards.{both}
use Rattle.notices.specs.Profiles.{credit}
use Rattle.references.specs.WarmUp.{longest_ahead, shortest_ahead, warms_up}

pub morning_ahead : (s : ℕ) → s < credit.evening.start → longest_ahead s ≡ 5
morning_ahead s b = rw (lt-ltb s credit.evening.start b)

pub evening_ahead : (s : ℕ) → credit.evening.start ≤ s → longest_ahead s ≡ 4
evening_ahead s b = rw (le-ltb s credit.evening.start b)

pub ahead_range : (s : ℕ) → (4 ≤ longest_ahead s) × (longest_ahead s ≤ 5)
ahead_range s = by (ltb s credit.evening.start)
  where
    by : (b : Bool) → (4 ≤ cond b 5 4) × (cond b 5 4 ≤ 5)
    by true = omega arith
    by false = omega arith

-- an hour by how many elapsed hours it is ahead
module _ (w : Winter) (day s h : ℕ) where
  pub warms : has_hour w day h ≡ true → shortest_ahead ≤ elapsed w day h s → elapsed w day h s ≤ longest_ahead s → warms_up w day s h ≡ true
  unfolding warms_up
  warms has late early = rw (has, le-leb shortest_ahead (elapsed w day h s) late, le-leb (elapsed w day h s) (longest_ahead s) early)

  pub too_early : longest_ahead s < elapsed w day h s → warms_up w day s h ≡ false
  unfolding warms_up
  too_early b = rw (lt-leb (elapsed w day h s) (longest_ahead s) b) (none (has_hour w day h) (leb shortest_ahead (elapsed w day h s)))
    where
      none : (a b : Bool) → (a && b && false) ≡ false
      none true true = refl
      none true false = refl
      none false true = refl
      none false false = refl

  pub too_late : elapsed w day h s < shortest_ahead → warms_up w day s h ≡ false
  unfolding warms_up
  too_late b = rw (lt-leb shortest_ahead (elapsed w day h s) b) (none (has_hour w day h))
    where
      none : (a : Bool) → (a && false && leb (elapsed w day h s) (longest_ahead s)) ≡ false
      none true = refl
      none false = refl

  pub lacking : has_hour w day h ≡ false → warms_up w day s h ≡ false
  unfolding warms_up
  lacking e = rw e

  -- one that is has its place on the day
  pub warms_there : warms_up w day s h ≡ true → has_hour w day h ≡ true
  unfolding warms_up
  warms_there t = (both (has_hour w day h) _ (both (has_hour w day h && leb shortest_ahead (elapsed w day h s)) _ t).0).0
