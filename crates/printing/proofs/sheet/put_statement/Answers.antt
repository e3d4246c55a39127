-- `put_statement` puts the head, the line of each notice and the totals one after the other.
-- Assumes nothing.
use Rattle.printing.specs.Sheet.{statement_lines}
use Rattle.numerals.proofs.PutLaws.{put_both}
use Rattle.printing.proofs.sheet.put_statement.Goals as goal

pub returns-clause-put : goal.returns-clause-put
unfolding statement_lines
returns-clause-put c =
    let head = rw (c.from.ensures, c.from-2.ensures) at c.put_head-first.ensures.put in
    rw (← c.count_in-count.ensures)
    (put_both _ _ head (put_both _ _ c.put_lines-past.ensures.put c.put_totals.ensures.put))
