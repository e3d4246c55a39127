-- Laws of the walk over the months: what it gives where it stops, and that a month passed changes nothing.
-- Assumes nothing.
use Prim.Native.Nat.{ℕ, zero, suc, ◌+◌, ◌-◌, ◌%◌, ◌≤◌, ◌<◌}
use mathlib.Core.Bool.{Bool, true, false, not, cond, ◌&&◌, ◌||◌}
use mathlib.Core.List.{List, [], ◌∷◌}
use mathlib.Core.Path.{◌≡◌, refl, ap}
use native.Mathlib.Numerals.{add-one}
use native.Mathlib.Omega.{arith}
use lib.Dec.{eqb, ltb}
use lib.ListN.{get_or, drop, length}
use Rattle.std.proofs.Math.ListN.{drop_of_length-le}
use Rattle.std.specs.Prelude.{Option, Some, None, Ok, Err, ok_or, sum}
use Rattle.dates.specs.declared.answers.DateError.TheVariants.{NoWinter}
use Rattle.dates.specs.declared.answers.DateError.{DateError}
use lib.Seq.{drop-cons}
use borrow.Author.Tests.{eqb-true, eq-eqb, ne_eqb, lt-ltb, le-ltb, ltb-false}
use Rattle.laws.proofs.Guards.{neither}
use Rattle.laws.proofs.Refusals.{refused, kept}
use Rattle.laws.specs.Answer.{given, refusal}
use Rattle.dates.specs.Century.{InCentury}
use Rattle.dates.specs.Dates.{month_lengths, month_after, date_from, day_in_month, book_day_from}
use Rattle.dates.specs.Winters.{no_winter, leap, days}

-- in the century that begins with 2000 a leap year is one that 4 divides: 2000 is one too
pub leap_century : (y : ℕ) → InCentury y → eqb (y % 4) 0 ≡ leap y
unfolding leap
leap_century y e = by (eqb (y % 4) 0) (eqb (y % 100) 0) refl
  where
    by : (four hundred : Bool) → eqb (y % 100) 0 ≡ hundred → four ≡ (four && (not hundred || eqb (y % 400) 0))
    by false hundred q = refl
    by true false q = refl
    by true true q = rw (eq-eqb (y % 400) 0 (omega (arith, e, eqb-true (y % 100) 0 q)))

-- what the code's months tell of the winter: there is one or not, and they are the definition's
module _ (y : ℕ) {r : Option (List ℕ)} (m : r ≡ cond (no_winter y) None (Some (month_lengths y))) where
  pub without : r ≡ None → no_winter y ≡ true
  without e = grind arith

  pub with_months : (lengths : List ℕ) → r ≡ Some lengths → (no_winter y ≡ false) × (lengths ≡ month_lengths y)
  with_months lengths e = (grind arith, grind arith)

  -- the same where a `?` gives the error
  pub without_error : (e : DateError) → ok_or r NoWinter ≡ Err e → (no_winter y ≡ true) × (e ≡ NoWinter)
  without_error e q = (without (grind arith), grind arith)

  pub with_months_ok : (lengths : List ℕ) → ok_or r NoWinter ≡ Ok lengths
      → (no_winter y ≡ false) × (lengths ≡ month_lengths y) × (length lengths ≡ 5)
  unfolding month_lengths
  with_months_ok lengths q =
      let p = with_months lengths (grind arith) in
      (p.0, p.1, ap length p.1)

-- no month has more than 31 days, and those of a winter's months are N
pub length_small : (y i : ℕ) → get_or (month_lengths y) i 0 ≤ 31
unfolding month_lengths
length_small y zero = omega arith
length_small y (suc zero) = omega arith
length_small y (suc (suc zero)) = omega arith
length_small y (suc (suc (suc zero))) = february (leap (y + 1))
  where
    february : (b : Bool) → cond b 29 28 ≤ 31
    february true = omega arith
    february false = omega arith
length_small y (suc (suc (suc (suc zero)))) = omega arith
length_small y (suc (suc (suc (suc (suc i))))) = omega arith

pub sum_days : (y : ℕ) → sum (month_lengths y) ≡ days y
unfolding month_lengths days
sum_days y = either (leap (y + 1))
  where
    either : (b : Bool) → sum (30 ∷ 31 ∷ 31 ∷ cond b 29 28 ∷ 31 ∷ []) ≡ cond b 152 151
    either true = refl
    either false = refl

-- at month i: what the walk gives there, and that passing the month changes nothing
module _ (lengths : List ℕ) (i : ℕ) (h : i < length lengths) where
  now_first : drop i lengths ≡ get_or lengths i 0 ∷ drop (i + 1) lengths
  now_first = rw add-one (drop-cons lengths i 0 h)

  pub date_here : (month left : ℕ) → left < get_or lengths i 0 → given (month ∷ (left + 1) ∷ []) ≡ date_from (drop i lengths) month left
  unfolding date_from
  date_here month left l = rw (now_first, lt-ltb left (get_or lengths i 0) l)

  pub date_next : (month left : ℕ) → get_or lengths i 0 ≤ left
      → date_from (drop (i + 1) lengths) (month_after month) (left - get_or lengths i 0) ≡ date_from (drop i lengths) month left
  unfolding date_from
  date_next month left l = rw (now_first, le-ltb left (get_or lengths i 0) l)

  pub book_day_here : (now first month day : ℕ) → now ≡ month
      → day_in_month first (get_or lengths i 0) day ≡ book_day_from (drop i lengths) now first month day
  unfolding book_day_from
  book_day_here now first month day q = rw (now_first, eq-eqb now month q)

  pub book_day_next : (now first month day : ℕ) → (now ≡ month → ⊥)
      → book_day_from (drop (i + 1) lengths) (month_after now) (first + get_or lengths i 0) month day ≡ book_day_from (drop i lengths) now first month day
  unfolding book_day_from
  book_day_next now first month day q = rw (now_first, ne_eqb now month q)

-- after March nothing is left
pub date_end : (lengths : List ℕ) (i month left : ℕ) → length lengths ≤ i → refusal 10 ≡ date_from (drop i lengths) month left
unfolding date_from
date_end lengths i month left h = rw (drop_of_length-le lengths h)

pub book_day_end : (lengths : List ℕ) (i now first month day : ℕ) → length lengths ≤ i → refusal 10 ≡ book_day_from (drop i lengths) now first month day
unfolding book_day_from
book_day_end lengths i now first month day h = rw (drop_of_length-le lengths h)

-- what the two walks over the months go by
pub ruleset date_laws = (without_error, with_months_ok, date_here, date_next, date_end, refused, kept)

pub ruleset book_day_laws = (without_error, with_months_ok, length_small, book_day_here, book_day_next, book_day_end, refused, kept)

-- a day that the month has
pub in_month : (day n : ℕ) → (ltb day 1 || ltb n day) ≡ false → (1 ≤ day) × (day ≤ n)
in_month day n e =
    let p = neither (ltb day 1) (ltb n day) e in
    (ltb-false day 1 p.0, ltb-false n day p.1)
