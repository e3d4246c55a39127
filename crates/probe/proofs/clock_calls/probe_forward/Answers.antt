-- What C is told is the calendar's answer on the winter's facts, or 1 for no winter.
-- Assumes nothing.
use native.Mathlib.Omega.{arith}
use Rattle.probe.proofs.YearLaws.{no_year, of_year_lem}
use Rattle.probe.proofs.clock_calls.probe_forward.Goals as goal

pub returns-in_default : goal.returns-in_default
returns-in_default c = rw (← no_year _ _ c.winter_of.ensures _ c.in_default.is) c.error_told.ensures

pub returns : goal.returns
returns c = rw (← of_year_lem _ _ c.winter_of.ensures _ _ c.in-Some.is c.clocks_forward.ensures) (grind arith)
