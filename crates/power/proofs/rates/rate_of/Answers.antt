-- What is left to show of `rate_of`, by the invariant in `Invariants.antt`: the row that the power is in has its rate.
-- Assumes nothing.
use mathlib.Core.Path.{◌∙◌}
use Rattle.power.proofs.RateLaws.{rate_in_rows, row_decides}
use Rattle.power.proofs.rates.rate_of.Goals as goal

pub returns-then-sum-last : goal.returns-then-sum-last
returns-then-sum-last c =
    row_decides _ _ _ _ c.loop-last-test.true c.if-sum-last.true ∙ c.loop-last.invariant ∙ rate_in_rows _ _ c.if-sum-kilowatt.false
