-- `trimmed_of` is T of its five readings.
-- Assumes nothing.
use Rattle.energy.proofs.TrimmedLaws.{is_trimmed}
use borrow.Author.Rules.{rules}
use Rattle.energy.proofs.trimmed.trimmed_of.Goals as goal

pub returns : goal.returns
returns c =
    rw (c.from.ensures, c.from-2.ensures)
    (is_trimmed c.args.five (search rules) c.total.ensures c.smallest-low.ensures c.largest-high.ensures (search rules))
