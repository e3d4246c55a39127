-- Past the four tests of `settle_event` the day's part is in the book, and the hours lie in a band.
-- Assumes nothing.
use Rattle.laws.proofs.Guards.{found}
use Rattle.energy.proofs.CallLaws.{told_ready}
use Rattle.energy.proofs.call.settle_event.Goals as goal

pub line_in-requires : goal.line_in-requires
line_in-requires c =
    told_ready _ _ _ (found c.wrong_winter.ensures c.if-wrong_winter.false) (found c.wrong_length.ensures c.if-wrong_length.false)
    (found c.in_period.ensures c.if-not-in_period.false) c.figures.ensures c.hours_verdict.ensures c.in_ok-hours_verdict.was
