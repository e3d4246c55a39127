-- What is left to show of `put_fields`, by the invariant in `Invariants.antt`.
-- Assumes nothing.
use Rattle.numerals.proofs.FieldWalk.{fields_next}
use Rattle.numerals.proofs.writing.put_fields.Goals as goal

pub loop-k-preserved : goal.loop-k-preserved
loop-k-preserved c =
    fields_next c.loop-k.invariant c.loop-k-test.true c.end_of.ensures c.put_field-i.ensures.put c.put_field-i.ensures.upper_bound
