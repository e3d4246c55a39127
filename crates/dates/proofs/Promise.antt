-- What the crates above may count on: which years are winters, that N is 151 or 152, what `winter_days` tells, and the dates that the
-- calendar is made of.
-- Assumes nothing.
use Prim.Native.Nat.{ℕ, ◌+◌, ◌-◌, ◌≤◌}
use mathlib.Core.Bool.{Bool, true, false, cond}
use mathlib.Core.List.{[], ◌∷◌, map}
use mathlib.Core.Logic.{◌⊎◌, inl, inr, ◌↔◌}
use mathlib.Core.Path.{◌≡◌, refl, sym}
use native.Mathlib.Omega.{arith}
use lib.Dec.{ltb}
use borrow.Author.Tests.{ltb-false, le-ltb}
use Rattle.laws.proofs.Guards.{neither}
use Rattle.laws.proofs.Refusals.{refused, kept}
use Rattle.laws.specs.Answer.{given, refusal, refuse}
use Rattle.dates.proofs.OneOutcome.{days_one}
use Rattle.dates.specs.Answers.{days_paper, winter_days, date_of, book_day_of}
use Rattle.dates.specs.Dates.{month_lengths, november, date_from, day_in_month, book_day_from}
use Rattle.dates.specs.Winters.{no_winter, leap, days}
use Rattle.std.specs.Prelude.{Option, Some, None}

pub winter_range : (y : ℕ) → (no_winter y ≡ false) ↔ ((2010 ≤ y) × (y ≤ 2098))
unfolding no_winter
winter_range y = (
  λ e. let p = neither (ltb y 2010) (ltb 2098 y) e in (ltb-false y 2010 p.0, ltb-false 2098 y p.1),
  λ p. rw (le-ltb y 2010 p.0, le-ltb 2098 y p.1),
)

pub days_two : (y : ℕ) → (days y ≡ 151) ⊎ (days y ≡ 152)
unfolding days
days_two y = either (leap (y + 1)) 152 151
  where
    either : (b : Bool) (m n : ℕ) → (cond b m n ≡ n) ⊎ (cond b m n ≡ m)
    either true m n = inr refl
    either false m n = inl refl

pub days_range : (y : ℕ) → (151 ≤ days y) × (days y ≤ 152)
unfolding days
days_range y = either (leap (y + 1))
  where
    either : (b : Bool) → (151 ≤ cond b 152 151) × (cond b 152 151 ≤ 152)
    either true = (omega arith, omega arith)
    either false = (omega arith, omega arith)

-- what an answer of `winter_days` tells
pub days_is : (y : ℕ) (r : Option ℕ) → days_paper r ≡ winter_days y → r ≡ cond (no_winter y) None (Some (days y))
unfolding winter_days
days_is y r e = days_one r _ (winter_days y) e (sym (either (no_winter y)))
  where
    either : (b : Bool) → refuse b (refusal 1) (given (days y ∷ [])) ≡ days_paper (cond b None (Some (days y)))
    either true = sym (refused _ _ refl)
    either false = sym (kept _ refl refl)

pub no_winter_lem : (y : ℕ) (r : Option ℕ) → r ≡ None → days_paper r ≡ winter_days y → no_winter y ≡ true
no_winter_lem y r q e = grind (arith, days_is y r e)

pub is_winter : (y n : ℕ) (r : Option ℕ) → r ≡ Some n → days_paper r ≡ winter_days y → no_winter y ≡ false
is_winter y n r q e = grind (arith, days_is y r e)

pub winter_count : (y n : ℕ) (r : Option ℕ) → r ≡ Some n → days_paper r ≡ winter_days y → n ≡ days y
winter_count y n r q e = grind (arith, days_is y r e)

-- the date of a day of a winter, refused or not
pub date_walk : (y : ℕ) → no_winter y ≡ false → (d : ℕ) → date_of y d ≡ date_from (month_lengths y) november d
unfolding date_of
date_walk y w d = sym (kept (refusal 1) w refl)

-- the first days of December and of March
pub december_first : (y : ℕ) → no_winter y ≡ false → book_day_of y 12 1 ≡ given (30 ∷ [])
unfolding book_day_of book_day_from day_in_month month_lengths
december_first y w = sym (kept (refusal 1) w refl)

pub march_first_lem : (y : ℕ) → no_winter y ≡ false → book_day_of y 3 1 ≡ given ((days y - 31) ∷ [])
unfolding book_day_of book_day_from day_in_month month_lengths days
march_first_lem y w = sym (kept (refusal 1) w (either (leap (y + 1))))
  where
    either : (b : Bool) → given ((cond b 152 151 - 31) ∷ []) ≡ given ((30 + 31 + 31 + cond b 29 28 + 1 - 1) ∷ [])
    either true = refl
    either false = refl

-- day 30 is 1 December, and days 53, 54, 55, 60, 61, 62 are 24, 25, 26, 31 December, 1 and 2 January
pub early_dates : (y : ℕ) → no_winter y ≡ false
    → map (date_of y) (30 ∷ 53 ∷ 54 ∷ 55 ∷ 60 ∷ 61 ∷ 62 ∷ [])
    ≡ given (12 ∷ 1 ∷ [])
    ∷ given (12 ∷ 24 ∷ [])
    ∷ given (12 ∷ 25 ∷ [])
    ∷ given (12 ∷ 26 ∷ [])
    ∷ given (12 ∷ 31 ∷ [])
    ∷ given (1 ∷ 1 ∷ [])
    ∷ given (1 ∷ 2 ∷ [])
    ∷ []
unfolding date_from month_lengths
early_dates y w = simp (date_walk y w)
