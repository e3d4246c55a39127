-- `rate_of` goes down the rows of the table.
-- The invariant: the rows that are left have the rate.
-- Assumes nothing.
use mathlib.Core.Path.{◌≡◌}
use lib.ListN.{drop}
use Rattle.power.specs.Rates.{rates, rate_in}
use Rattle.power.proofs.RateLaws.{rows_of}
use Rattle.power.proofs.rates.rate_of.Given as goal

abbrev pub invariant-loop-last : goal.invariant-loop-last
invariant-loop-last l = rate_in (rows_of (drop l.last-index l.last-items)) l.sum l.count ≡ rate_in rates l.sum l.count
