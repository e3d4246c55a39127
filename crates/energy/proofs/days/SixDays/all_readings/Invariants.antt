-- `all_readings` walks the hours.
-- The invariant: the hours from the next one on have readings exactly if all have.
-- Assumes nothing.
use mathlib.Core.List.{◌∷◌}
use mathlib.Core.Path.{◌≡◌}
use Rattle.book.specs.Places.{run}
use Rattle.energy.specs.HoursOf.{run_hours}
use Rattle.energy.specs.Parts.{parts_of, all_readings}
use Rattle.energy.proofs.days.SixDays.all_readings.Given as goal

abbrev pub invariant-loop-hour : goal.invariant-loop-hour
invariant-loop-hour l =
    all_readings (l.self.event.readings.now ∷ parts_of l.self.refs) (run l.hour l.hour-end)
    ≡ all_readings (l.self.event.readings.now ∷ parts_of l.self.refs) (run_hours l.fn.hours)
