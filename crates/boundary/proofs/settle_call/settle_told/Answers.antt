-- `settle_told` is refused by its lengths, or settles whole numbers.
-- Assumes nothing.
use Rattle.boundary.proofs.SettleLaws.{refused_settles, right_call, whole_settles}
use Rattle.boundary.proofs.settle_call.settle_told.Goals as goal

pub returns-in_err-call_refusal : goal.returns-in_err-call_refusal
returns-in_err-call_refusal c =
    let tells = refused_settles _ _ c.args.book.now c.args.list.now c.args.out.now _ _ c.numbers_in-readings.ensures
    c.numbers_in-numbers.ensures _ c.in_err-call_refusal.ensures _ c.from_residual.ensures.1 in
    record { value = tells.0; out_after = tells.1 }

pub settle_whole-requires : goal.settle_whole-requires
settle_whole-requires c =
    (right_call _ _ c.args.book.now c.args.list.now c.args.out.now _ _ c.numbers_in-readings.ensures c.numbers_in-numbers.ensures
    c.in_ok-call_refusal.ensures).lengths

pub returns : goal.returns
returns c =
    let right = right_call _ _ c.args.book.now c.args.list.now c.args.out.now _ _ c.numbers_in-readings.ensures
    c.numbers_in-numbers.ensures c.in_ok-call_refusal.ensures in
    let settles = whole_settles _ _ c.args.book.now c.args.list.now c.args.out.now right c.settle_whole.ensures in
    record { value = settles.0; out_after = settles.1 }
