-- What `fault` finds is told at an hour of the day, since all the hours are.
-- Assumes nothing.
use mathlib.Core.Path.{sym, ◌∙◌}
use Rattle.energy.proofs.HourLaws.{hours_told_lem}
use Rattle.energy.proofs.days.Day.fault.Goals as goal

pub placed-requires : goal.placed-requires
placed-requires c =
    let asked = c.requires in
    let is = sym c.in_ok-fault.was ∙ c.hour_fault.ensures in
    record { day_fits = asked.day_fits; in_day = hours_told_lem _ _ asked.hours_within is }
