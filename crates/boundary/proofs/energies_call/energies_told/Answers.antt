-- `energies_told` is refused by its lengths, or goes by whole numbers.
-- Assumes nothing.
use Rattle.boundary.proofs.EnergiesLaws.{refused_tells, right_call, whole_tells}
use Rattle.boundary.proofs.energies_call.energies_told.Goals as goal

pub returns-in_err-call_refusal : goal.returns-in_err-call_refusal
returns-in_err-call_refusal c =
    let tells = refused_tells _ c.args.book.now c.args.list.now c.args.out.now _ _ c.numbers_in-readings.ensures
    c.numbers_in-numbers.ensures _ c.in_err-call_refusal.ensures _ c.from_residual.ensures.1 in
    record { value = tells.0; out_after = tells.1 }

pub energies_whole-requires : goal.energies_whole-requires
energies_whole-requires c =
    (right_call _ c.args.book.now c.args.list.now c.args.out.now _ _ c.numbers_in-readings.ensures c.numbers_in-numbers.ensures
    c.in_ok-call_refusal.ensures).lengths

pub returns : goal.returns
returns c =
    let right = right_call _ c.args.book.now c.args.list.now c.args.out.now _ _ c.numbers_in-readings.ensures
    c.numbers_in-numbers.ensures c.in_ok-call_refusal.ensures in
    let tells = whole_tells _ c.args.book.now c.args.list.now c.args.out.now right c.energies_whole.ensures in
    record { value = tells.0; out_after = tells.1 }
