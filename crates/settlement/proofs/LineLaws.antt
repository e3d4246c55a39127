-- Laws of the lines over the events of a list: they go by their events, a line has its width, and what stands at each number of a line.
-- Assumes nothing.
use Prim.Native.Nat.{ℕ, ◌*◌, ◌≤◌, ◌<◌}
use mathlib.Core.List.{List, ◌++◌}
use mathlib.Core.Path.{◌≡◌, refl, ap}
use native.Mathlib.Nat.{add-zero, le_trans, mul-le-mul_right}
use native.Mathlib.Omega.{arith}
use Rattle.laws.proofs.RowLaws.{Wide, rows_alike, row_in}
use Rattle.laws.proofs.SumLaws.{sum_same, sum_bounded}
use Rattle.laws.specs.Bounds.{largest_energy}
use Rattle.laws.specs.Sums.{sum_to}
use Rattle.notices.specs.Notices.{most_notices}
use Rattle.energy.specs.Event.{Event}
use Rattle.settlement.specs.Events.{energy_at}
use Rattle.settlement.specs.Lines.{line_numbers, line_at, lines_to}
use Rattle.settlement.specs.Printed.{code_in, place_in, energy_in, event_told}

-- sums and lines go by the events that they are of
module _ (f g : ℕ → Event) where
  pub energy_same : (n : ℕ) → ((k : ℕ) → k < n → f k ≡ g k) → sum_to (energy_at f) n ≡ sum_to (energy_at g) n
  energy_same n same = sum_same (energy_at f) (energy_at g) n (λ k h. ap (λ (e : Event). e.energy) (same k h))

  pub lines_same : (n : ℕ) → ((k : ℕ) → k < n → f k ≡ g k) → lines_to f n ≡ lines_to g n
  unfolding line_at
  lines_same n same = rows_alike (line_at f) (line_at g) n (λ k h. rw (same k h))

-- the events of a list have no more energy than so many of the largest
pub total_few : (events : ℕ → Event) → ((k : ℕ) → energy_at events k ≤ largest_energy) → (n : ℕ) → n ≤ most_notices
    → sum_to (energy_at events) n ≤ most_notices * largest_energy
total_few events bounded n h = le_trans (sum_bounded (energy_at events) largest_energy n (λ k b. bounded k)) (mul-le-mul_right largest_energy h)

module _ (events : ℕ → Event) where
  pub line_wide : Wide line_numbers (line_at events)
  unfolding line_at
  line_wide = record { long = λ k. refl }

  -- what stands at line k of n lines
  module _ (rest : List ℕ) (n k : ℕ) (h : k < n) where
    code_is : code_in (lines_to events n ++ rest) k ≡ (events k).code
    unfolding line_at
    code_is = rw (← add-zero (line_numbers * k)) (row_in line_wide rest n k 0 h (omega arith))

    place_is : place_in (lines_to events n ++ rest) k ≡ (events k).place
    unfolding line_at
    place_is = row_in line_wide rest n k 1 h (omega arith)

    pub energy_is : energy_in (lines_to events n ++ rest) k ≡ (events k).energy
    unfolding line_at
    energy_is = row_in line_wide rest n k 2 h (omega arith)

    -- so a line tells its event
    pub told_is : event_told (lines_to events n ++ rest) k ≡ events k
    told_is = rw (code_is, place_is, energy_is)
