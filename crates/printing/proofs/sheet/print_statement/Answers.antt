-- `print_statement` writes only where there is room, and then the whole statement.
-- Assumes nothing.
use Rattle.laws.proofs.Guards.{found}
use Rattle.printing.proofs.RoomLaws.{printed_nothing, printed_front}
use Rattle.printing.proofs.sheet.print_statement.Goals as goal

pub returns-then-cannot_print : goal.returns-then-cannot_print
returns-then-cannot_print c =
    let both = printed_nothing _ _ (found (rw c.count_in.ensures at c.cannot_print.ensures) c.if-cannot_print.true) in
    record { value = both.0; out_after = both.1 }

pub returns : goal.returns
returns c =
    let both = printed_front (found (rw c.count_in.ensures at c.cannot_print.ensures) c.if-cannot_print.false)
    c.put_statement.ensures.put c.put_statement.ensures.upper_bound in record { value = both.0; out_after = both.1 }
