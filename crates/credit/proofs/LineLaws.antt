-- Laws of the lines over the events of a list: they go by their events, a line has its width, and what stands at each number of a line.
-- Assumes nothing.
use Prim.Native.Nat.{ℕ, suc, ◌*◌, ◌≤◌, ◌<◌}
use mathlib.Core.List.{List, ◌++◌}
use mathlib.Core.Path.{◌≡◌, refl, ap}
use native.Mathlib.Nat.{add-zero, le_trans, mul-le-mul_right}
use native.Mathlib.Omega.{arith}
use Rattle.laws.proofs.RowLaws.{Wide, rows_alike, row_in}
use Rattle.laws.proofs.SumLaws.{sum_same, sum_bound}
use Rattle.laws.specs.Bounds.{largest_energy}
use Rattle.laws.specs.Sums.{sum_to}
use Rattle.money.proofs.CentLaws.{cents_same}
use Rattle.money.specs.Cents.{cents_at}
use Rattle.money.specs.Worth.{most_energy}
use Rattle.notices.specs.Notices.{most_notices}
use Rattle.settlement.specs.Events.{energy_at}
use Rattle.energy.specs.Event.{Event}
use Rattle.credit.specs.Lines.{line_numbers, line_at, lines_to}
use Rattle.credit.specs.Printed.{code_in, place_in, energy_in, cents_in, event_told}

-- sums and lines go by the events that they are of
module _ (f g : ℕ → Event) where
  pub energy_same : (n : ℕ) → ((k : ℕ) → k < n → f k ≡ g k) → sum_to (energy_at f) n ≡ sum_to (energy_at g) n
  energy_same n same = sum_same (energy_at f) (energy_at g) n (λ k h. ap (λ (e : Event). e.energy) (same k h))

  line_same : (p k : ℕ) → ((j : ℕ) → j < suc k → f j ≡ g j) → line_at p f k ≡ line_at p g k
  unfolding line_at
  line_same p k same =
      rw (same k (omega arith), cents_same p (energy_at f) (energy_at g) k (energy_same (suc k) same) (energy_same k (λ j h. same j (omega arith))))

  pub lines_same : (p n : ℕ) → ((k : ℕ) → k < n → f k ≡ g k) → lines_to p f n ≡ lines_to p g n
  lines_same p n same = rows_alike (line_at p f) (line_at p g) n (λ k h. line_same p k (λ j b. same j (omega arith)))

-- the events of a list have no more energy than is priced
pub total_few : (events : ℕ → Event) → ((k : ℕ) → energy_at events k ≤ largest_energy) → (n : ℕ) → n ≤ most_notices → sum_to (energy_at events) n ≤ most_energy
total_few events bounded n h = le_trans (sum_bound (energy_at events) largest_energy bounded n) (mul-le-mul_right largest_energy h)

module _ (p : ℕ) (events : ℕ → Event) where
  pub line_wide : Wide line_numbers (line_at p events)
  unfolding line_at
  line_wide = record { long = λ k. refl }

  -- what stands at line k of n lines
  module _ (rest : List ℕ) (n k : ℕ) (h : k < n) where
    code_is : code_in (lines_to p events n ++ rest) k ≡ (events k).code
    unfolding line_at
    code_is = rw (← add-zero (line_numbers * k)) (row_in line_wide rest n k 0 h (omega arith))

    place_is : place_in (lines_to p events n ++ rest) k ≡ (events k).place
    unfolding line_at
    place_is = row_in line_wide rest n k 1 h (omega arith)

    pub energy_is : energy_in (lines_to p events n ++ rest) k ≡ (events k).energy
    unfolding line_at
    energy_is = row_in line_wide rest n k 2 h (omega arith)

    -- so a line tells its event
    pub told_is : event_told (lines_to p events n ++ rest) k ≡ events k
    told_is = rw (code_is, place_is, energy_is)

    pub cents_is : cents_in (lines_to p events n ++ rest) k ≡ cents_at p (energy_at events) k
    unfolding line_at
    cents_is = row_in line_wide rest n k 3 h (omega arith)
