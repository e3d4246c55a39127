-- The line is that of the winter's facts and the list's masks, or 1 for no winter.
-- Assumes nothing.
use mathlib.Core.Path.{◌≡◌}
use native.Mathlib.Omega.{arith}
use Rattle.std.proofs.lemmas.Result.{err_from_is_err_and}
use Rattle.refusals.specs.declared.rule.Rule.TheVariants.{NoWinter}
use Rattle.probe.proofs.YearLaws.{no_event, event_of_lem}
use Rattle.probe.proofs.event_calls.line_of.Goals as goal

pub returns-in_err-w : goal.returns-in_err-w
returns-in_err-w c =
    let p = err_from_is_err_and c.from_residual.result c.from_residual.ensures.1 in
    let is : c.in_err-w.field-0.0 ≡ NoWinter = grind arith in
    rw (p.1, p.2, is) (no_event _ c.winter_of.result c.winter_of.ensures _ (grind arith))

pub returns : goal.returns
returns c =
    rw (← c.masks_of-masks.ensures)
    (event_of_lem _ c.winter_of.result c.winter_of.ensures _ c.in_ok-w.w (grind arith) c.settle_event.ensures)
