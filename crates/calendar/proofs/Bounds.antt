-- Bounds of Easter's numbers: the specification's t lies in 114..149, and so Easter Sunday in days 141..177 of the book. And of the years
-- that are asked for: they lie in one century.
-- Assumes nothing.
use Prim.Native.Nat.{ℕ, ◌+◌, ◌-◌, ◌*◌, ◌/◌, ◌%◌, ◌≤◌}
use mathlib.Core.Bool.{false}
use mathlib.Core.Path.{◌≡◌}
use native.Mathlib.Omega.{arith}
use lib.Dec.{ltb}
use borrow.Author.Tests.{ltb-false}
use Rattle.laws.proofs.Guards.{neither}
use Rattle.laws.proofs.Refusals.{refused, kept}
use Rattle.dates.proofs.Promise.{days_range}
use Rattle.dates.specs.Century.{InCentury}
use Rattle.calendar.specs.Easter.{no_easter_year, easter_t, after_march_first, easter_in_book}

-- the last step of Easter's formula over plain numbers: t is small
pub easter_sum : (h l m : ℕ) → h % 30 + l % 7 - 7 * m + 114 ≤ 149
easter_sum h l m = omega arith

pub t_range : (y : ℕ) → (114 ≤ easter_t y) × (easter_t y ≤ 149)
unfolding easter_t
t_range y = (omega arith, easter_sum _ _ _)

pub after_range : (y : ℕ) → (21 ≤ after_march_first y) × (after_march_first y ≤ 56)
after_range y = plain (easter_t y) (t_range y)
  where
    plain : (t : ℕ) → (114 ≤ t) × (t ≤ 149) → (21 ≤ 31 * (t / 31 - 3) + (t % 31 + 1) - 1) × (31 * (t / 31 - 3) + (t % 31 + 1) - 1 ≤ 56)
    plain t q = omega arith

pub easter_range : (y : ℕ) → (141 ≤ easter_in_book y) × (easter_in_book y ≤ 177)
unfolding easter_in_book
easter_range y = omega (arith, days_range y, after_range (y + 1))

-- a year of the century that begins with 2000: what is left over 100, and how often 400 goes into it
module _ (y : ℕ) (e : InCentury y) where
  pub century_rest : y % 100 ≡ y - 2000
  century_rest = omega arith

  pub century_fours : y / 400 ≡ 5
  century_fours = omega arith

-- each year whose Easter is answered is one
pub easter_century : (y : ℕ) → no_easter_year y ≡ false → InCentury y
unfolding no_easter_year
easter_century y e =
    let p = neither (ltb y 2011) (ltb 2099 y) e in
    omega (arith, ltb-false y 2011 p.0, ltb-false 2099 y p.1)

-- what a year's Easter Sunday goes by
pub ruleset easter_laws = (easter_century, refused, kept)
