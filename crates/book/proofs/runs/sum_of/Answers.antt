-- `sum_of` is the library's sum over its range.
-- Assumes nothing.
use mathlib.Core.Path.{refl}
use native.Mathlib.Omega.{arith}
use Rattle.std.proofs.Common.{rules}
use Rattle.std.proofs.lemmas.Iterator.{YieldsList-from_range, YieldsList-from_map}
use Rattle.std.proofs.lemmas.Iterator.Consumers.{sum_by_from_yields_List, fits_by_from_yields_list}
use Rattle.book.proofs.SumLaws.{run_fits, run_sum}
use Rattle.book.specs.Readings.{reading_at}
use Rattle.book.proofs.runs.sum_of.Goals as goal

pub sum-requires-clause-fits : goal.sum-requires-clause-fits
sum-requires-clause-fits c =
    fits_by_from_yields_list (reading_at c.args.values.now) _ c.map.result _
    (YieldsList-from_map _ (reading_at c.args.values.now) (YieldsList-from_range c.args.from c.end_among-end.result _ c.map.ensures.source refl)
    c.map.ensures.closure (λ x r q k. search rules))
    (run_fits c.args.values.now c.type_inv.values c.args.from c.args.to _ c.end_among-end.ensures (omega arith))

pub returns : goal.returns
returns c =
    run_sum c.args.values.now c.type_inv.values c.args.from c.args.to _ c.end_among-end.ensures
    (sum_by_from_yields_List (reading_at c.args.values.now) _ c.map.result _ c.sum.ensures.ran
    (YieldsList-from_map _ (reading_at c.args.values.now) (YieldsList-from_range c.args.from c.end_among-end.result _ c.map.ensures.source refl)
    c.map.ensures.closure (λ x r q k. search rules)))
