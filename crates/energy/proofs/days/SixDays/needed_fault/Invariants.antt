-- `needed_fault` goes from day to day: the event day, and then the reference days.
-- The invariant: the first fault of all is that of the days from the next one on.
-- Assumes nothing.
use mathlib.Core.List.{◌∷◌, ◌++◌}
use mathlib.Core.Path.{◌≡◌}
use lib.ListN.{drop}
use Rattle.std.specs.Prelude.{None}
use Rattle.energy.specs.HoursOf.{warm_run, event_run}
use Rattle.energy.specs.Parts.{numbers_of, parts_of, parts_fault}
use Rattle.energy.proofs.days.SixDays.needed_fault.Given as goal

abbrev pub invariant-loop-day : goal.invariant-loop-day
invariant-loop-day l =
    parts_fault (warm_run l.hours ++ event_run l.hours) None (numbers_of (drop l.day-index l.self.refs)) (parts_of (drop l.day-index l.self.refs))
    ≡ parts_fault (warm_run l.hours ++ event_run l.hours) None (l.self.event.number ∷ numbers_of l.self.refs) (l.self.event.readings.now ∷ parts_of l.self.refs)
