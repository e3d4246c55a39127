-- `date_of` walks the months.
-- The invariant: the date looked for from the month at the index on, `left` days after its first, is the date of the day.
-- Assumes nothing.
use mathlib.Core.Path.{◌≡◌}
use lib.ListN.{drop}
use Rattle.dates.specs.Dates.{november, date_from}
use Rattle.dates.proofs.dates.date_of.Given as goal

abbrev pub invariant-loop-length : goal.invariant-loop-length
invariant-loop-length l = date_from (drop l.length-index l.length-items) l.month l.left ≡ date_from l.length-items november l.day
