-- What is left to show of `event_lines`, by the invariant in `Invariants.antt`.
-- Assumes nothing.
use Prim.Native.Nat.{◌+◌}
use mathlib.Core.Path.{◌≡◌, sym, ◌∙◌}
use borrow.Author.Rules.{rules}
use Rattle.std.specs.Prelude.{Some, None}
use Rattle.form.specs.Lines.{breaks}
use Rattle.form.proofs.EventWalk.{events_stop, events_next}
use Rattle.form.proofs.lines.event_lines.Goals as goal

pub returns-in_err-next : goal.returns-in_err-next
returns-in_err-next c =
    let none : c.event_line.result ≡ None = search rules in
    let told : c.from_residual.result ≡ breaks (4 + c.loop-k.k) = search rules in
    let both = events_stop c.loop-k.invariant c.loop-k-test.true (sym none ∙ c.event_line.ensures.value, c.event_line.ensures.list_after) in
    record { value = told ∙ both.0; list_after = both.1 }

pub loop-k-preserved : goal.loop-k-preserved
loop-k-preserved c =
    let some : c.event_line.result ≡ Some c.in_ok-next.next = search rules in
    events_next c.loop-k.invariant c.loop-k-test.true (sym some ∙ c.event_line.ensures.value, c.event_line.ensures.list_after)
