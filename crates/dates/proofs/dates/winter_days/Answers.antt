-- `winter_days` adds up the lengths of the months, which together are N.
-- Assumes nothing.
use native.Mathlib.Omega.{arith}
use mathlib.Core.Path.{ap, ◌∙◌}
use Rattle.std.proofs.lemmas.Iterator.{YieldsList-from_slice}
use Rattle.std.proofs.lemmas.Iterator.Consumers.{sum_from_yields_List, fits_from_yields_list}
use Rattle.std.specs.Prelude.{sum}
use Rattle.laws.proofs.Refusals.{kept}
use Rattle.dates.specs.Answers.{winter_days}
use Rattle.dates.proofs.DateLaws.{with_months, sum_days}
use Rattle.dates.proofs.Promise.{days_range}
use Rattle.dates.proofs.dates.winter_days.Goals as goal

pub sum-requires-clause-fits : goal.sum-requires-clause-fits
sum-requires-clause-fits c =
    let w = with_months _ c.month_lengths.ensures _ c.in_ok-month_lengths.was in
    fits_from_yields_list _ _ (YieldsList-from_slice c.in_ok-month_lengths.field-0 cc)
    (omega (arith, ap sum w.1, sum_days c.args.winter, days_range c.args.winter))

pub returns : goal.returns
unfolding winter_days
returns c =
    let w = with_months _ c.month_lengths.ensures _ c.in_ok-month_lengths.was in
    let total = sum_from_yields_List _ _ c.sum.ensures.ran (YieldsList-from_slice c.in_ok-month_lengths.field-0 cc) in
    kept _ w.0 (rw (total ∙ ap sum w.1 ∙ sum_days c.args.winter))
