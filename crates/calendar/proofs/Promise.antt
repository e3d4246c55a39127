-- The calendar's promise: what the crates above may count on, so that they open none of its definitions.
-- Assumes nothing.
use Prim.Native.Nat.{ℕ, ◌+◌, ◌%◌, ◌≤◌, ◌<◌}
use mathlib.Core.Bool.{Bool, true, false, not, ◌&&◌, ◌||◌}
use mathlib.Core.Logic.{◌↔◌}
use mathlib.Core.Path.{◌≡◌, refl, ◌∙◌}
use native.Mathlib.Omega.{arith}
use lib.Dec.{T, leb, ltb, eqb, leb→le}
use borrow.Author.Tests.{ltb-false, le-ltb, leb-true, leb-false, ltb-true, le-leb, lt-leb, lt-ltb, ne_eqb}
use Rattle.laws.proofs.Below.{below, how_many}
use Rattle.laws.proofs.Guards.{both, neither}
use Rattle.dates.specs.Winters.{days}
use Rattle.dates.proofs.Promise.{days_range}
use Rattle.calendar.specs.Days.{wrong_winter, no_day, in_period}
use Rattle.calendar.specs.Easter.{easter_in_book}
use Rattle.calendar.specs.Excluded.{fixed_days, among, good_friday, easter_monday, excluded}
use Rattle.calendar.specs.Weekdays.{first_weekday, weekday, weekend}
use Rattle.calendar.specs.WinterOf.{winter_of}
use Rattle.calendar.specs.declared.answers.Winter.{Winter}
use Rattle.calendar.proofs.Bounds.{easter_range}

-- a winter's facts: its N, which is 151 or 152, and the winter period, which is days 30 to N - 1

pub facts_days : (y : ℕ) → (winter_of y).days ≡ days y
unfolding winter_of
facts_days y = refl

pub facts_right : (y : ℕ) → wrong_winter (winter_of y) ≡ false
unfolding wrong_winter winter_of
facts_right y = rw (le-ltb (days y) 151 (days_range y).0, le-ltb 152 (days y) (days_range y).1)

pub days_few : (w : Winter) → wrong_winter w ≡ false → (151 ≤ w.days) × (w.days ≤ 152)
unfolding wrong_winter
days_few w e = let p = neither (ltb w.days 151) (ltb 152 w.days) e in (ltb-false w.days 151 p.0, ltb-false 152 w.days p.1)

pub day_test : (w : Winter) (d : ℕ) → no_day w d ≡ leb w.days d
unfolding no_day
day_test w d = refl

pub book_day : (w : Winter) (d : ℕ) → no_day w d ≡ false → d < w.days
unfolding no_day
book_day w d e = leb-false w.days d e

pub day_there : (w : Winter) (d : ℕ) → d < w.days → no_day w d ≡ false
unfolding no_day
day_there w d h = lt-leb w.days d h

pub day_past : (w : Winter) (d : ℕ) → w.days ≤ d → no_day w d ≡ true
unfolding no_day
day_past w d h = le-leb w.days d h

pub in_book : (w : Winter) (d : ℕ) → (in_period w d ≡ true) → d < w.days
unfolding in_period
in_book w d e = ltb-true d w.days (both (leb w.december d) (ltb d w.days) e).1

pub period_day : (y d : ℕ) → (in_period (winter_of y) d ≡ true) ↔ ((30 ≤ d) × (d < days y))
unfolding in_period winter_of
period_day y d = (
  λ e. let p = both (leb 30 d) (ltb d (days y)) e in (leb-true 30 d p.0, ltb-true d (days y) p.1),
  λ p. rw (le-leb 30 d p.0, lt-ltb d (days y) p.1),
)

-- of a book day it is the start of December that decides, of a day past the book nothing
pub period_start : (w : Winter) (d : ℕ) → no_day w d ≡ false → in_period w d ≡ leb w.december d
unfolding in_period no_day
period_start w d e = rw (lt-ltb d w.days (leb-false w.days d e)) (and_true (leb w.december d))
  where
    and_true : (b : Bool) → (b && true) ≡ b
    and_true true = refl
    and_true false = refl

pub past_period : (w : Winter) (d : ℕ) → no_day w d ≡ true → in_period w d ≡ false
unfolding in_period no_day
past_period w d e = rw (le-ltb d w.days (leb-true w.days d e)) (and_false (leb w.december d))
  where
    and_false : (b : Bool) → (b && false) ≡ false
    and_false true = refl
    and_false false = refl

-- up to day 119 the fixed days are excluded, and no others

early_excluded : (y d : ℕ) → d < 120 → excluded (winter_of y) d ≡ among d fixed_days
unfolding excluded good_friday easter_monday winter_of
early_excluded y d h =
    rw (
      ne_eqb (d + 2) (easter_in_book y) (λ (e : d + 2 ≡ easter_in_book y). omega (arith, easter_range y)),
      ne_eqb d (easter_in_book y + 1) (λ (e : d ≡ easter_in_book y + 1). omega (arith, easter_range y)),
    )
    (no_more (among d fixed_days) (not (no_day (winter_of y) d)))
  where
    no_more : (a b : Bool) → (a || (b && false)) ≡ a
    no_more true b = refl
    no_more false true = refl
    no_more false false = refl

-- November: no excluded day, and behind its first seven days at least six weekend days and fifteen weekdays

november_free : ℕ → Bool
november_free d = not (among d fixed_days)

pub november_open : (y d : ℕ) → d < 30 → excluded (winter_of y) d ≡ false
unfolding november_free among
november_open y d h = early_excluded y d (omega arith) ∙ fixed_none (among d fixed_days) (below november_free 30 tt d h)
  where
    fixed_none : (b : Bool) → T (not b) → b ≡ false
    fixed_none true t = absurd t
    fixed_none false t = refl

-- by the weekday f of 1 November
weekend_from : ℕ → ℕ → Bool
weekend_from f d = eqb ((f + d) % 7) 0 || eqb ((f + d) % 7) 6

six : ℕ → Bool
six f = leb 6 (how_many (λ i. weekend_from f (7 + i)) 23)

fifteen : ℕ → Bool
fifteen f = leb 15 (how_many (λ i. not (weekend_from f (7 + i))) 23)

pub november_weekends : (y : ℕ) → 6 ≤ how_many (λ i. weekend (winter_of y) (7 + i)) 23
unfolding six weekend_from weekend weekday first_weekday winter_of
november_weekends y = leb→le 6 (how_many (λ i. weekend (winter_of y) (7 + i)) 23) (below six 7 tt (first_weekday y) (omega arith))

pub november_weekdays : (y : ℕ) → 15 ≤ how_many (λ i. not (weekend (winter_of y) (7 + i))) 23
unfolding fifteen weekend_from weekend weekday first_weekday winter_of
november_weekdays y = leb→le 15 (how_many (λ i. not (weekend (winter_of y) (7 + i))) 23) (below fifteen 7 tt (first_weekday y) (omega arith))
