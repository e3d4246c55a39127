-- Laws of the rates, one for each way out of the table; and none is above the first.
-- Assumes nothing.
use Prim.Native.Nat.{ℕ, ◌+◌, ◌*◌, ◌≤◌, ◌<◌}
use mathlib.Core.Bool.{Bool, true, false, cond}
use mathlib.Core.List.{List, map}
use mathlib.Core.Path.{◌≡◌}
use native.Mathlib.Numerals.{add-one}
use native.Mathlib.Omega.{arith}
use lib.ListN.{length, get_or, drop}
use lib.Seq.{drop-cons}
use borrow.Author.Tests.{lt-ltb, le-ltb, le-leb, lt-leb}
use Rattle.power.specs.Rates.{kilowatt, below, at_most, Rate, up_to, least_power, rates, last_rate, rate_in, rate_of}

-- the rows of a table that is given as pairs
abbrev pub rows_of : List (ℕ × ℕ) → List Rate
rows_of = map (λ (row : ℕ × ℕ). up_to row.0 row.1)

module _ (sum count : ℕ) where
  -- so many kW, as a sum of reductions
  abbrev bound : ℕ → ℕ
  bound kilowatts = kilowatts * (kilowatt * count)

  pub rate_none : sum < bound least_power → 0 ≡ rate_of sum count
  unfolding rate_of
  rate_none h = rw (lt-ltb sum (bound least_power) h)

  pub rate_in_rows : bound least_power ≤ sum → rate_in rates sum count ≡ rate_of sum count
  unfolding rate_of
  rate_in_rows some = rw (le-ltb sum (bound least_power) some)

  -- of the rows from an index on the first decides, or those after it
  module _ (rows : List (ℕ × ℕ)) (i : ℕ) (within : i < length rows) where
    abbrev row : ℕ × ℕ
    row = get_or rows i (0, 0)

    abbrev left_from : ℕ → ℕ
    left_from k = rate_in (rows_of (drop k rows)) sum count

    pub row_decides : sum ≤ bound row.0 → row.1 ≡ left_from i
    row_decides h = rw (drop-cons rows i (0, 0), le-leb sum (bound row.0) h)

    pub rows_after : bound row.0 < sum → left_from i ≡ left_from (i + 1)
    rows_after h = rw (drop-cons rows i (0, 0), lt-leb sum (bound row.0) h, add-one)

  pub rate_last : bound 1799 < sum → last_rate ≡ rate_of sum count
  unfolding rate_of
  rate_last h =
      rw (
        le-ltb sum (bound least_power) (omega arith),
        lt-leb sum (bound 199) (omega arith),
        lt-leb sum (bound 599) (omega arith),
        lt-leb sum (bound 1199) (omega arith),
        lt-leb sum (bound 1799) h,
      )

  -- no rate is above the first
  either_most : (b : Bool) (x y : ℕ) → x ≤ 66690 → y ≤ 66690 → cond b x y ≤ 66690
  either_most true x y h g = h
  either_most false x y h g = g

  pub rate_most : rate_of sum count ≤ 66690
  unfolding rate_of
  rate_most =
      either_most (below least_power sum count) _ _ (omega arith)
      (either_most (at_most 199 sum count) _ _ (omega arith)
      (either_most (at_most 599 sum count) _ _ (omega arith)
      (either_most (at_most 1199 sum count) _ _ (omega arith)
      (either_most (at_most 1799 sum count) _ _ (omega arith) (omega arith)))))

pub ruleset rate_laws = (rate_none, rate_in_rows, row_decides, rows_after)
