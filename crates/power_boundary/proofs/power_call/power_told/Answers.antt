-- `power_told` is refused by its lengths, or settles whole numbers.
-- Assumes nothing.
use Rattle.power_boundary.proofs.PowerLaws.{refused_power, right_power, whole_power_lem}
use Rattle.power_boundary.proofs.power_call.power_told.Goals as goal

pub returns-in_err-call_refusal : goal.returns-in_err-call_refusal
returns-in_err-call_refusal c =
    let asked = c.args in
    let is = refused_power _ asked.book.now asked.list.now asked.references.now asked.out.now asked.totals.now _ _ _
    c.numbers_in-readings.ensures c.numbers_in-numbers.ensures c.numbers_in-given.ensures _ c.in_err-call_refusal.ensures _ c.from_residual.ensures.1 in
    record { value = is.answer_is; out_after = is.bytes_are; totals_after = is.totals_are }

pub power_whole-requires : goal.power_whole-requires
power_whole-requires c =
    let asked = c.args in
    (right_power _ asked.book.now asked.list.now asked.references.now asked.out.now asked.totals.now _ _ _ c.numbers_in-readings.ensures
    c.numbers_in-numbers.ensures c.numbers_in-given.ensures c.in_ok-call_refusal.ensures).lengths

pub returns : goal.returns
returns c =
    let asked = c.args in
    let right = right_power _ asked.book.now asked.list.now asked.references.now asked.out.now asked.totals.now _ _ _
    c.numbers_in-readings.ensures c.numbers_in-numbers.ensures c.numbers_in-given.ensures c.in_ok-call_refusal.ensures in
    let is = whole_power_lem _ asked.book.now asked.list.now asked.references.now asked.out.now asked.totals.now right c.power_whole.ensures in
    record { value = is.answer_is; out_after = is.bytes_are; totals_after = is.totals_are }
