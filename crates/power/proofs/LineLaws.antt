-- Laws of the lines over the events of a list: a line has its width, what stands at each of its numbers, and bounds of the sums over them.
-- Assumes nothing.
use Prim.Native.Nat.{ℕ, zero, suc, ◌+◌, ◌*◌, ◌≤◌, ◌<◌}
use mathlib.Core.Bool.{Bool, true, false}
use mathlib.Core.List.{List, ◌++◌}
use mathlib.Core.Path.{◌≡◌, refl}
use native.Mathlib.Nat.{add-zero}
use native.Mathlib.Omega.{arith}
use lib.Dec.{eqb}
use lib.ListN.{get_or}
use Rattle.laws.proofs.RowLaws.{Wide, row_in}
use Rattle.laws.proofs.SumLaws.{sum_none, sum_next}
use Rattle.laws.specs.Answer.{bit}
use Rattle.laws.specs.Sums.{sum_to}
use Rattle.notices.specs.Notices.{notice_at}
use Rattle.power.specs.Lines.{power_line_numbers, power_line_at, power_lines_to, reduction_at, settled_one, settled_at}
use Rattle.power.specs.Ready.{Ready, AllReady, largest_reduction, MeanFits}
use Rattle.power.specs.Reduced.{Reduced, reference_at, reduced_at}
use Rattle.power.proofs.EventLaws.{reduction_most}

module _ (events : ℕ → Reduced) where
  pub line_wide : Wide power_line_numbers (power_line_at events)
  unfolding power_line_at
  line_wide = record { long = λ k. refl }

  -- what stands at line k of n lines
  module _ (rest : List ℕ) (n k : ℕ) (h : k < n) where
    abbrev output : List ℕ
    output = power_lines_to events n ++ rest

    pub code_is : get_or output (power_line_numbers * k) 0 ≡ (events k).event.code
    unfolding power_line_at
    code_is = rw (← add-zero (power_line_numbers * k)) (row_in line_wide rest n k 0 h (omega arith))

    pub place_is : get_or output (power_line_numbers * k + 1) 0 ≡ (events k).event.place
    unfolding power_line_at
    place_is = row_in line_wide rest n k 1 h (omega arith)

    pub energy_is : get_or output (power_line_numbers * k + 2) 0 ≡ (events k).event.energy
    unfolding power_line_at
    energy_is = row_in line_wide rest n k 2 h (omega arith)

    pub reduction_is : get_or output (power_line_numbers * k + 3) 0 ≡ (events k).reduction
    unfolding power_line_at
    reduction_is = row_in line_wide rest n k 3 h (omega arith)

-- an event adds at most one to the settled ones, and a reduction only with it
one_most : (b : Bool) → bit b ≤ 1
one_most true = omega arith
one_most false = omega arith

module _ (events : ℕ → Reduced) where
  sums_fit : (n : ℕ) → ((k : ℕ) → k < n → (events k).reduction ≤ largest_reduction * settled_one (events k).event)
      → (sum_to (reduction_at events) n ≤ largest_reduction * sum_to (settled_at events) n) × (sum_to (settled_at events) n ≤ n)
  sums_fit zero each = rw (sum_none (reduction_at events), sum_none (settled_at events)) (omega arith, omega arith)
  sums_fit (suc n) each =
      let before = sums_fit n (λ k h. each k (omega arith)) in
      rw (sum_next (reduction_at events) n, sum_next (settled_at events) n)
      (omega (arith, before.0, each n (omega arith)), omega (arith, before.1, one_most (eqb (events n).event.code 0)))

-- so the sums over the first k of n notices that are ready fit
module _ (book l references : List ℕ) where
  at_most : (k : ℕ) → Ready (reference_at references k) (notice_at l k)
      → (reduced_at book l references k).reduction ≤ largest_reduction * settled_one (reduced_at book l references k).event
  unfolding reduced_at
  at_most k ready = reduction_most book (reference_at references k) (notice_at l k) ready

  pub ready_fits : {room n : ℕ} → AllReady l references room n → (k : ℕ) → k ≤ n
      → MeanFits (sum_to (reduction_at (reduced_at book l references)) k) (sum_to (settled_at (reduced_at book l references)) k)
  ready_fits ready k h =
      let fits = sums_fit (reduced_at book l references) k (λ j b. at_most j (ready.each j (omega arith))) in
      record { sum_most = fits.0; few = omega (arith, fits.1, ready.few) }
