-- `check_bytes` packs the verdict of the list check.
-- Assumes nothing.
use mathlib.Core.Path.{ap, ◌∙◌}
use lib.ListN.{get_or}
use Rattle.laws.specs.Answer.{Answer}
use Rattle.schedule.proofs.Bounds.{check_bounded}
use Rattle.wire.specs.Decoded.{decoded}
use Rattle.boundary.proofs.Packing.{packed_is}
use Rattle.boundary.specs.Calls.{packed_answer, check_call}
use Rattle.boundary.proofs.check_call.check_bytes.Goals as goal

pub returns : goal.returns
unfolding check_call
returns c =
    let place = ap (λ (a : Answer). get_or a.values 0 0) c.check_lent.ensures in
    let bounded = rw (← place) at (check_bounded c.args.winter (decoded c.args.list.now) c.args.profile).1 in
    c.packed.ensures ∙ packed_is c.check_lent.result bounded ∙ ap packed_answer c.check_lent.ensures
