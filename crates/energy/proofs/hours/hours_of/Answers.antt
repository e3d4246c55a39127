-- `hours_of` holds the warm-up hours and the event hours: around the passed hour where that lies between, else in one run, which begins an hour
-- later before an evening event.
-- Assumes nothing.
use Rattle.laws.proofs.Guards.{found}
use Rattle.references.proofs.Ahead.{morning_ahead, evening_ahead}
use Rattle.energy.proofs.SplitHours.{split_hours, whole_hours}
use native.Mathlib.Omega.{arith}
use Rattle.energy.proofs.hours.hours_of.Goals as goal
use Rattle.energy.proofs.hours.hours_of.Goals.{then-start, else-start}

pub returns-then-is_split : goal.returns-then-is_split
returns-then-is_split c = split_hours _ _ _ _ c.requires.spans (found c.is_split.ensures c.if-is_split.true)

pub returns : goal.returns
returns c = whole_hours _ _ _ _ c.requires.spans (found c.is_split.ensures c.if-is_split.false) _
    (elim c.if-start.branch [
      | then-start w ↦ omega (arith, w.ahead-is, morning_ahead _ w.if-start.true)
      | else-start w ↦ omega (arith, w.ahead-is, evening_ahead _ w.if-start.false)
    ])
