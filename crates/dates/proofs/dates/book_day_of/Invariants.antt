-- `book_day_of` walks the months.
-- The invariant: the book day looked for from the month at the index on, which starts at `first`, is the book day of the date.
-- Assumes nothing.
use Prim.Native.Nat.{◌≤◌, ◌*◌}
use mathlib.Core.Path.{◌≡◌}
use lib.ListN.{drop}
use Rattle.dates.specs.Dates.{november, book_day_from}
use Rattle.dates.proofs.dates.book_day_of.Given as goal

abbrev pub invariant-loop-length : goal.invariant-loop-length
invariant-loop-length l =
    (l.first ≤ 31 * l.length-index)
    × (book_day_from (drop l.length-index l.length-items) l.now l.first l.month l.day ≡ book_day_from l.length-items november 0 l.month l.day)
