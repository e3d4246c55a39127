-- The reading is that of the day's part at the hour; past the part stands 0.
-- Assumes nothing.
use native.Mathlib.Omega.{arith}
use Rattle.std.proofs.lemmas.Grind.{common_steps}
use Rattle.std.proofs.lemmas.Option.{gets}
use Rattle.probe.proofs.YearLaws.{no_part_of, part_of_lem}
use Rattle.probe.proofs.calendar_calls.probe_part_reading.Goals as goal

pub returns-in_default : goal.returns-in_default
returns-in_default c = rw (← no_part_of _ _ c.winter_of.ensures _ _ c.in_default.is)

pub returns : goal.returns
returns c = rw (← part_of_lem _ _ c.winter_of.ensures _ _ _ c.in-Some.is, ← c.day_readings.ensures.contents) (grind (arith, common_steps, gets))
