-- What is left to show of `read_lines`, by the invariant in `Invariants.antt`.
-- Assumes nothing.
use Prim.Native.Nat.{◌+◌}
use mathlib.Core.Path.{◌≡◌, sym, ap, ◌∙◌}
use borrow.Author.Rules.{rules}
use Rattle.std.specs.Option.{option_or}
use Rattle.std.specs.Prelude.{Some, None}
use Rattle.form.specs.Lines.{breaks}
use Rattle.form.proofs.ReadWalk.{reads_end, reads_stop, reads_next}
use Rattle.form.proofs.lines.read_lines.Goals as goal

pub returns-in_err-hours : goal.returns-in_err-hours
returns-in_err-hours c =
    let none : c.read_line.result ≡ None = search rules in
    let told : c.from_residual.result ≡ breaks (c.args.first + c.loop-k.k) = search rules in
    let both = reads_stop c.loop-k.invariant c.loop-k-test.true (sym none ∙ c.read_line.ensures.value, c.read_line.ensures.book_after) in
    record { value = told ∙ both.0; book_after = both.1 }

pub loop-k-preserved : goal.loop-k-preserved
loop-k-preserved c =
    let some : c.read_line.result ≡ Some c.in_ok-hours.hours = search rules in
    let next = reads_next c.loop-k.invariant c.loop-k-test.true (sym some ∙ c.read_line.ensures.value, c.read_line.ensures.book_after)
    c.misplaced.ensures (c.or-found.ensures ∙ ap (option_or c.loop-k.found) c.then_some.ensures) in
    rw c.place_of.ensures.value next

pub returns : goal.returns
returns c =
    let both = reads_end c.loop-k.invariant c.loop-k-test.false in
    record { value = both.0; book_after = both.1 }
