-- What is left to show of `row_at`, by the invariant in `Invariants.antt`.
-- Assumes nothing.
use mathlib.Core.Path.{refl, sym, ◌∙◌}
use Rattle.numerals.proofs.RowLaws.{left_more, left_ended, left_broken, row_last, row_bad, row_more}
use Rattle.numerals.proofs.rows.row_at.Goals as goal

pub returns-then-end-eq10 : goal.returns-then-end-eq10
returns-then-end-eq10 c =
    let last = row_last _ _ _ _ c.loop-count-test.true (sym c.field_at.ensures ∙ c.in_ok-value.was) c.if-end-eq10.true in
    let left = left_ended (left_more c.loop-count.invariant last c.put-k.ensures.value c.put-k.ensures.out_after) refl in
    record { value = left.0; out_after = left.1 }

pub returns-then-end-ne44 : goal.returns-then-end-ne44
returns-then-end-ne44 c =
    let bad = row_bad _ _ _ _ c.loop-count-test.true (sym c.field_at.ensures ∙ c.in_ok-value.was) c.if-end-eq10.false c.if-end-ne44.true in
    let left = left_broken (left_more c.loop-count.invariant bad c.put-k.ensures.value c.put-k.ensures.out_after) refl in
    record { value = left.0; out_after = left.1 }

pub loop-count-preserved : goal.loop-count-preserved
loop-count-preserved c =
    let more = row_more _ _ _ _ c.loop-count-test.true (sym c.field_at.ensures ∙ c.in_ok-value.was) c.if-end-eq10.false c.if-end-ne44.false in
    left_more c.loop-count.invariant more c.put-k.ensures.value c.put-k.ensures.out_after
