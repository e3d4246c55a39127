-- `read_front` has at the front of the buffer what it took from the reader, a part behind the other.
-- Assumes nothing.
use Rattle.std.proofs.Common.{rules}
use Rattle.statement.proofs.Known.{taken_more}
use Rattle.statement.proofs.read_front.Goals as goal

pub loop-filled-preserved : goal.loop-filled-preserved
loop-filled-preserved g c =
    let filled = c.loop-filled.invariant in
    (search rules, search rules, taken_more _ _ _ _ _ _ _ _ filled.1 c.in-Ok.ensures.bound.0 filled.2 c.in-Ok.ensures.bytes.0)
