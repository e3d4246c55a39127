-- The Sundays on which the clocks change: each is a Sunday, the one of November among its first seven days, the one of March in its second week.
-- And the hours of a day: only that Sunday of March lacks one, so that on every other day the elapsed hours are those of the clock.
-- Assumes nothing.
use Prim.Native.Nat.{ℕ, zero, suc, ◌+◌, ◌-◌, ◌≤◌, ◌<◌}
use mathlib.Core.Bool.{Bool, true, false, not, ◌&&◌}
use mathlib.Core.List.{[], ◌∷◌}
use mathlib.Core.Logic.{⊎_elim}
use mathlib.Core.Path.{◌≡◌, refl}
use native.Mathlib.Nat.{le_of_suc-le-suc, eq-or-lt_of_le}
use native.Mathlib.Omega.{arith}
use lib.Dec.{leb, eqb}
use borrow.Author.Tests.{le-leb, lt-leb, eq-eqb, ne_eqb}
use Rattle.laws.proofs.Order.{either_order}
use Rattle.laws.proofs.Refusals.{refused, kept}
use Rattle.laws.specs.Answer.{given, refusal, bit}
use Rattle.calendar.specs.Answers.{forward_day, back_day}
use Rattle.calendar.specs.Clocks.{sunday_from, clocks_back, clocks_forward, passed_hour, has_hour, elapsed}
use Rattle.calendar.specs.Days.{wrong_winter, march_first, march_eighth}
use Rattle.calendar.specs.Weekdays.{weekday}
use Rattle.calendar.specs.declared.answers.Winter.{Winter}
use Rattle.calendar.proofs.Promise.{days_few}

-- a Sunday of the week that begins with a day
pub record SundayOf (w : Winter) (first d : ℕ) : Type 0 where
  pub is_sunday : weekday w d ≡ 0
  pub not_before : first ≤ d
  pub in_week : d < first + 7

sunday_of : (w : Winter) (d : ℕ) → SundayOf w d (sunday_from w d)
unfolding sunday_from weekday
sunday_of w d = record { is_sunday = omega arith; not_before = omega arith; in_week = omega arith }

pub back_sunday : (w : Winter) → SundayOf w 0 (clocks_back w)
unfolding clocks_back
back_sunday w = sunday_of w 0

pub forward_sunday : (w : Winter) → wrong_winter w ≡ false → SundayOf w (march_eighth w.days) (clocks_forward w)
unfolding clocks_forward weekday
forward_sunday w right =
    let s = sunday_of w (march_first w.days) in
    let n = days_few w right in
    record { is_sunday = omega (arith, s.is_sunday); not_before = omega (arith, s.not_before, n); in_week = omega (arith, s.in_week, n) }

-- in which no difference of the calls and no sum wraps
pub weekday_few : (w : Winter) (d : ℕ) {n : ℕ} → n ≡ weekday w d → n ≤ 7
unfolding weekday
weekday_few w d e = omega (arith, e)

pub sunday_most : (w : Winter) (d : ℕ) {s : ℕ} → s ≡ sunday_from w d → s ≤ d + 6
sunday_most w d e = omega (arith, e, (sunday_of w d).in_week)

-- the calls, of facts that are a winter's
module _ (w : Winter) (right : wrong_winter w ≡ false) (s : ℕ) where
  pub forward_given : s ≡ sunday_from w (march_first w.days) → given ((s + 7) ∷ []) ≡ forward_day w
  unfolding forward_day clocks_forward
  forward_given e = kept (refusal 1) right (rw e)

  pub back_given : s ≡ sunday_from w 0 → given (s ∷ []) ≡ back_day w
  unfolding back_day clocks_back
  back_given e = kept (refusal 1) right (rw e)

pub ruleset change_laws = (days_few, sunday_most, forward_given, back_given, refused)

-- another day has every hour
pub every_hour : (w : Winter) (d h : ℕ) → (d ≡ clocks_forward w → ⊥) → has_hour w d h ≡ true
unfolding has_hour
every_hour w d h other = rw (ne_eqb d (clocks_forward w) other)

-- that Sunday has each but one
pub other_hour : (w : Winter) (d h : ℕ) → (h ≡ passed_hour → ⊥) → has_hour w d h ≡ true
unfolding has_hour
other_hour w d h other = rw (ne_eqb h passed_hour other) (neither (eqb d (clocks_forward w)))
  where
    neither : (b : Bool) → not (b && false) ≡ true
    neither true = refl
    neither false = refl

pub no_hour : (w : Winter) (d : ℕ) → d ≡ clocks_forward w → has_hour w d passed_hour ≡ false
unfolding has_hour
no_hour w d e = rw (eq-eqb d (clocks_forward w) e)

-- elapsed hours, an hour more: one before the first counts for nothing, one that the day has for one, one that it has not for nothing
module _ (w : Winter) (d h s : ℕ) where
  early_hour : s < h → elapsed w d h (suc s) ≡ elapsed w d h s
  unfolding elapsed
  early_hour b = rw (lt-leb h s b) (omega arith)

  one_hour : h ≤ s → has_hour w d s ≡ true → elapsed w d h (suc s) ≡ elapsed w d h s + 1
  unfolding elapsed
  one_hour b has = rw (le-leb h s b, has)

  lacking_hour : has_hour w d s ≡ false → elapsed w d h (suc s) ≡ elapsed w d h s
  unfolding elapsed
  lacking_hour lacks = rw lacks (none (leb h s))
    where
      none : (b : Bool) → elapsed w d h s + bit (b && false) ≡ elapsed w d h s
      none true = omega arith
      none false = omega arith

-- where the day has each hour between, they are as many as by the clock
pub elapsed_clock : (w : Winter) (d h s : ℕ) → ((x : ℕ) → h ≤ x → x < s → has_hour w d x ≡ true) → elapsed w d h s ≡ s - h
unfolding elapsed
elapsed_clock w d h zero has = omega arith
elapsed_clock w d h (suc s) has =
    ⊎_elim (λ (b : s < h). omega (arith, early_hour w d h s b, elapsed_clock w d h s (λ x from to. absurd (omega arith))))
    (λ (b : h ≤ s). omega (arith, one_hour w d h s b (has s b (omega arith)), elapsed_clock w d h s (λ x from to. has x from (omega arith))))
    (either_order s h)

-- and over the hour that is passed over one fewer
pub elapsed_over : (w : Winter) (d h s : ℕ) → d ≡ clocks_forward w → h ≤ passed_hour → passed_hour < s → elapsed w d h s + 1 ≡ s - h
elapsed_over w d h zero e from to = absurd (omega arith)
elapsed_over w d h (suc s) e from to =
    ⊎_elim
    (λ (q : passed_hour ≡ s).
    omega (
      arith,
      lacking_hour w d h s (rw (← q) (no_hour w d e)),
      elapsed_clock w d h s (λ x f t. other_hour w d x (λ (z : x ≡ passed_hour). omega arith)),
    ))
    (λ (b : passed_hour < s).
    omega (arith, one_hour w d h s (omega arith) (other_hour w d s (λ (z : s ≡ passed_hour). omega arith)), elapsed_over w d h s e from b))
    (eq-or-lt_of_le (le_of_suc-le-suc to))
