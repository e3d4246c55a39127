-- Theorems over all 89 winters, each by one test that antt computes: Easter is a Sunday by the book's weekdays, and the years join up.
-- Assumes nothing.
use Prim.Native.Nat.{ℕ, ◌+◌, ◌≤◌}
use mathlib.Core.Bool.{Bool, false, cond}
use mathlib.Core.Path.{◌≡◌}
use native.Mathlib.Omega.{arith}
use lib.Dec.{T, eqb, eqb→eq}
use Rattle.laws.proofs.Below.{all_below, from}
use Rattle.dates.proofs.Promise.{winter_range}
use Rattle.dates.specs.Winters.{no_winter, leap, days}
use Rattle.calendar.specs.Easter.{easter_t, easter_month, easter_in_book}
use Rattle.calendar.specs.Weekdays.{first_weekday, weekday}
use Rattle.calendar.specs.WinterOf.{winter_of}
use Rattle.calendar.proofs.Bounds.{t_range}

-- a test of winters that computes to true at each of the 89 holds of every winter
pub in_winters : (f : ℕ → Bool) → T (all_below 89 (λ k. f (2010 + k))) → (y : ℕ) → no_winter y ≡ false → T (f y)
in_winters f t y w = let r = (winter_range y).0 w in from f 2010 89 t y r.0 (omega arith)

-- Easter is in March or April, whatever the year
pub easter_month_lem : (y : ℕ) → (3 ≤ easter_month y) × (easter_month y ≤ 4)
easter_month_lem y = omega (arith, t_range y)

on_sunday : ℕ → Bool
on_sunday y = eqb (weekday (winter_of y) (easter_in_book y)) 0

-- Easter Sunday is a Sunday
pub easter_is_sunday : (y : ℕ) → no_winter y ≡ false → weekday (winter_of y) (easter_in_book y) ≡ 0
unfolding on_sunday weekday first_weekday easter_in_book easter_t winter_of days leap
easter_is_sunday y w = eqb→eq (weekday (winter_of y) (easter_in_book y)) 0 (in_winters on_sunday tt y w)

joined : ℕ → Bool
joined y = eqb (first_weekday (y + 1)) (weekday (winter_of y) (cond (leap (y + 1)) 366 365))

-- the next winter's day 0 is 365 or 366 days on
pub next_winter : (y : ℕ) → no_winter y ≡ false → first_weekday (y + 1) ≡ weekday (winter_of y) (cond (leap (y + 1)) 366 365)
unfolding joined weekday first_weekday winter_of leap
next_winter y w = eqb→eq (first_weekday (y + 1)) (weekday (winter_of y) (cond (leap (y + 1)) 366 365)) (in_winters joined tt y w)
