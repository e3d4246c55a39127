-- `trimmed_sum` adds one hour more, by the invariant in `Invariants.antt`.
-- Assumes nothing.
use native.Mathlib.Omega.{arith}
use Rattle.book.proofs.SumLaws.{sum_more}
use Rattle.energy.specs.Parts.{parts_of, trimmed_in}
use Rattle.energy.proofs.TrimmedLaws.{trimmed_hour}
use Rattle.energy.proofs.days.SixDays.trimmed_sum.Goals as goal

pub loop-hour-preserved : goal.loop-hour-preserved
loop-hour-preserved c =
    let turn = c.loop-hour in
    let parts = parts_of c.args.self.now.refs in
    let here = trimmed_hour parts turn.hour c.readings_at.ensures c.trimmed_of-sum.ensures in
    let more = sum_more (trimmed_in parts) turn.hour c.args.hours.to c.loop-hour-test.true in
    record {
      small = omega (arith, turn.invariant.small, c.trimmed_of-sum.ensures.small);
      rest = omega (arith, turn.invariant.rest);
    }
