-- `put_lines` puts the lines one after another. Invariant: the first k lines are done, the rest of the output is as it was, and the energy of the k
-- lines is at hand.
-- Assumes nothing.
use Prim.Native.Nat.{ℕ}
use mathlib.Core.List.{List}
use mathlib.Core.Path.{◌≡◌}
use Rattle.event_hours.specs.Days.{masks_of}
use Rattle.laws.proofs.RowLaws.{Filled}
use Rattle.laws.specs.Sums.{sum_to}
use Rattle.notices.specs.Notices.{count_of}
use Rattle.energy.specs.Event.{Event}
use Rattle.settlement.specs.Events.{event_in, energy_at}
use Rattle.settlement.specs.Lines.{line_numbers, line_at}
use Rattle.settlement.proofs.lines.put_lines.Given as goal

pub record Carried (events : ℕ → Event) (came : List ℕ) (n : ℕ) (out : List ℕ) (energy k : ℕ) : Type 0 where
  pub energy_is : energy ≡ sum_to (energy_at events) k
  pub filled : Filled line_numbers (line_at events) came n out k

abbrev pub invariant-loop-k : goal.invariant-loop-k
invariant-loop-k l = Carried (event_in l.w l.book (masks_of l.list) l.list) l.initial.out (count_of l.list) l.out l.energy l.k
