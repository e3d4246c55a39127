-- `trimmed_sum` adds up T.
-- The invariant: the sum and T of the hours from the next one on make the whole, and each hour added less than 2^35.
-- Assumes nothing.
use Prim.Native.Nat.{ℕ, ◌+◌, ◌*◌, ◌^◌, ◌≤◌}
use mathlib.Core.List.{List}
use mathlib.Core.Path.{◌≡◌}
use Rattle.book.specs.Places.{run}
use Rattle.book.specs.Readings.{sum_over}
use Rattle.energy.specs.HoursOf.{run_hours}
use Rattle.energy.specs.Parts.{parts_of, trimmed_in}
use Rattle.energy.specs.declared.hours.Run.{Run}
use Rattle.energy.proofs.days.SixDays.trimmed_sum.Given as goal

pub record SoFar (parts : List (List ℕ)) (hours : Run) (sum hour : ℕ) : Type 0 where
  pub small : sum ≤ hour * 2 ^ 35
  pub rest : sum + sum_over (trimmed_in parts) (run hour hours.to) ≡ sum_over (trimmed_in parts) (run_hours hours)

abbrev pub invariant-loop-hour : goal.invariant-loop-hour
invariant-loop-hour l = SoFar (parts_of l.self.refs) l.fn.hours l.sum l.hour
