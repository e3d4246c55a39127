-- `needed_fault` goes on past a day that has no fault, by the invariant in `Invariants.antt`.
-- Assumes nothing.
use mathlib.Core.Path.{◌∙◌}
use Rattle.laws.proofs.Guards.{found}
use Rattle.energy.proofs.DayFaults.{day_clean}
use Rattle.energy.proofs.days.SixDays.needed_fault.Goals as goal

pub loop-day-preserved : goal.loop-day-preserved
loop-day-preserved c =
    day_clean _ c.args.self.now.refs c.loop-day.day-index _ (rw c.requires.five_refs c.loop-day-test.true) _
    c.fault-fault-in-loop-day.ensures
    (found c.is_some-in-loop-day.ensures c.if-is_some-2.false)
    ∙ c.loop-day.invariant
