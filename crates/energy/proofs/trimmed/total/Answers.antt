-- `total` is the sum of its five numbers, and no sum on the way wraps.
-- Assumes nothing.
use Rattle.std.proofs.Common.{rules}
use Rattle.std.proofs.iter.runs.Sources.{sums}
use Rattle.energy.proofs.TrimmedLaws.{sum_is}
use Rattle.energy.proofs.trimmed.total.Goals as goal

pub sum-requires-clause-fits : goal.sum-requires-clause-fits
sum-requires-clause-fits c = search (rules, sums)

pub returns : goal.returns
returns c = rw (← sum_is c.args.five.now) (search rules)
