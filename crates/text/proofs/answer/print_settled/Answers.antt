-- The settlement is printed: the line of the refusal of its notices, or the statement.
-- Assumes nothing.
use mathlib.Core.Path.{◌≡◌, refl}
use native.Mathlib.Omega.{arith}
use borrow.Author.Rules.{rules}
use Rattle.refusals.proofs.RuleNumbers.{number_range}
use Rattle.refusals.specs.Refusals.{rule_number}
use Rattle.text.proofs.PrintLaws.{prints_same}
use Rattle.text.proofs.ValueLaws.{settled_refused, statement_printed}
use Rattle.text.proofs.answer.print_settled.Goals as goal

pub returns-in-Err : goal.returns-in-Err
returns-in-Err c =
    let rule = c.in-Err.refusal.rule in
    let some = number_range rule in
    prints_same (rw c.from.ensures at c.refuse.ensures)
    (settled_refused _ _ _ _ c.args.lines.now c.args.out.now c.requires _ (rw c.in-Err.is at c.settle.ensures.value)
    (λ (z : rule_number rule ≡ 0). omega arith))

pub returns-in-Ok : goal.returns-in-Ok
returns-in-Ok c =
    statement_printed _ _ _ _ c.args.lines.now c.args.out.now c.requires _ (rw c.in-Ok.is at c.settle.ensures.value) refl
    c.requires.call.few _ _ _ c.settle.ensures.out_after (search rules) (c.print_statement.ensures.value, c.print_statement.ensures.out_after)
