-- `cents_told` is refused by price or lengths, or goes by whole numbers.
-- Assumes nothing.
use Rattle.boundary.proofs.CentsLaws.{refused_tells, right_call, whole_tells}
use Rattle.boundary.proofs.cents_call.cents_told.Goals as goal

pub returns-in_err-call_refusal : goal.returns-in_err-call_refusal
returns-in_err-call_refusal c =
    let tells = refused_tells _ c.args.energies.now c.args.out.now _ c.numbers_in.ensures _ c.in_err-call_refusal.ensures _ c.from_residual.ensures.1 in
    record { value = tells.0; out_after = tells.1 }

pub cents_whole-requires : goal.cents_whole-requires
cents_whole-requires c = (right_call _ c.args.energies.now c.args.out.now _ c.numbers_in.ensures c.in_ok-call_refusal.ensures).lengths

pub returns : goal.returns
returns c =
    let right = right_call _ c.args.energies.now c.args.out.now _ c.numbers_in.ensures c.in_ok-call_refusal.ensures in
    let tells = whole_tells _ c.args.energies.now c.args.out.now right c.cents_whole.ensures in
    record { value = tells.0; out_after = tells.1 }
