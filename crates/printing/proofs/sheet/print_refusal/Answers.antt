-- `print_refusal` writes only where there is room, and then the whole line.
-- Assumes nothing.
use native.Mathlib.Omega.{arith}
use Rattle.laws.proofs.Guards.{found}
use Rattle.printing.proofs.RoomLaws.{has_room, printed_nothing, printed_front}
use Rattle.printing.proofs.sheet.print_refusal.Goals as goal

pub returns-then-cannot_print : goal.returns-then-cannot_print
returns-then-cannot_print c =
    let both = printed_nothing _ _ (found c.cannot_print.ensures c.if-cannot_print.true) in
    record { value = both.0; out_after = both.1 }

pub returns : goal.returns
returns c =
    let cannot = found c.cannot_print.ensures c.if-cannot_print.false in
    let both = printed_front cannot (rw c.from.ensures at c.put_refusal.ensures.put) (omega (arith, (has_room 0 0 _ cannot).1)) in
    record { value = both.0; out_after = both.1 }
