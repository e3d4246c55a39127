-- What is left to show of `settle_accepted`: the sums fit what the credit is worked out of.
-- Assumes nothing.
use native.Mathlib.Omega.{arith}
use Rattle.power.proofs.LineLaws.{ready_fits}
use Rattle.power.proofs.call.settle_accepted.Goals as goal

pub credit_of-cents-requires : goal.credit_of-cents-requires
credit_of-cents-requires c = rw c.put_lines-sum.ensures.value (ready_fits c.args.book.now _ _ c.requires _ (omega arith))
