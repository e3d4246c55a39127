-- What is left to show of `write_numbers`, by the invariant in `Invariants.antt`.
-- Assumes nothing.
use mathlib.Core.Path.{refl, ◌∙◌}
use native.Mathlib.Omega.{arith}
use Rattle.laws.proofs.RowLaws.{filled_none, filled_next, filled_all}
use Rattle.wire.specs.Bytes.{bytes_written}
use Rattle.wire.proofs.WriteLaws.{eight_wide}
use Rattle.wire.proofs.writing.write_numbers.Goals as goal

pub loop-i-init : goal.loop-i-init
loop-i-init c = filled_none

pub loop-i-preserved : goal.loop-i-preserved
loop-i-preserved c =
    filled_next c.loop-i.invariant (eight_wide c.args.numbers.now) (omega arith) c.loop-i-test.true c.put_number.ensures refl

pub returns : goal.returns
unfolding bytes_written
returns c = filled_all c.loop-i.invariant c.loop-i-test.false ∙ rw c.min-count.ensures
