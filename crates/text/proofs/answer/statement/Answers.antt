-- The answer to a text: nothing without room, 32, 30, or what is printed of a text that has the form.
-- Assumes nothing.
use mathlib.Core.Path.{sym, ◌∙◌}
use Rattle.text.proofs.StatementLaws.{no_room, long_refused, form_refused, answers, by_arrays}
use Rattle.text.proofs.answer.statement.Goals as goal

pub returns-then-out-lt20480 : goal.returns-then-out-lt20480
returns-then-out-lt20480 c = let both = no_room _ _ c.if-out-lt20480.true in
    record { value = both.0; out_after = both.1 }

pub returns-then-text-gt65536 : goal.returns-then-text-gt65536
returns-then-text-gt65536 c =
    let a = c.args in
    let both = answers a.text.now a.out.now c.if-out-lt20480.false (long_refused a.text.now c.if-text-gt65536.true) c.refuse.ensures in
    record { value = both.0; out_after = both.1 }

pub returns-in-Err : goal.returns-in-Err
returns-in-Err c =
    let a = c.args in
    let is = sym c.read_text.ensures.value ∙ c.in-Err.is in
    let both = answers a.text.now a.out.now c.if-out-lt20480.false (form_refused a.text.now c.if-text-gt65536.false _ is) c.refuse-in-Err.ensures in
    record { value = both.0; out_after = both.1 }

pub returns-in-Ok : goal.returns-in-Ok
returns-in-Ok c =
    let a = c.args in
    let is = sym c.read_text.ensures.value ∙ c.in-Ok.is in
    let both = by_arrays a.text.now a.out.now c.if-out-lt20480.false c.if-text-gt65536.false _ is c.read_text.ensures.list_after c.read_text.ensures.book_after
    c.print_formed.ensures in
    record { value = both.0; out_after = both.1 }
