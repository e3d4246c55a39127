-- What is left to show of `read_numbers`, by the invariant in `Invariants.antt`.
-- Assumes nothing.
use mathlib.Core.Path.{◌∙◌}
use native.Mathlib.Omega.{arith}
use Rattle.laws.proofs.RowLaws.{filled_none, filled_set, filled_ones}
use Rattle.wire.specs.Bytes.{numbers_read}
use Rattle.wire.proofs.reading.read_numbers.Goals as goal

pub loop-i-init : goal.loop-i-init
loop-i-init c = filled_none

pub loop-i-preserved : goal.loop-i-preserved
loop-i-preserved c = filled_set c.loop-i.invariant (omega arith) c.loop-i-test.true c.four_bytes_at.ensures

pub returns : goal.returns
unfolding numbers_read
returns c = filled_ones c.loop-i.invariant c.loop-i-test.false ∙ rw c.min-count.ensures
