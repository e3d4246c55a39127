-- `refusal_of` goes from part to part of the table: the call's own rows, the references, and in a winter, which it is by then, the notices.
-- Assumes nothing.
use mathlib.Core.Bool.{true≢false}
use mathlib.Core.Path.{◌≡◌, refl, sym, ap, ◌∙◌}
use native.Mathlib.Omega.{arith}
use Rattle.std.proofs.lemmas.Result.{err_from_is_err_and}
use Rattle.std.specs.Prelude.{Some, None}
use Rattle.calendar.proofs.Answered.{no_winter_known, winter_known}
use Rattle.calendar.specs.declared.answers.Winter.{Winter}
use Rattle.dates.proofs.Promise.{winter_range}
use Rattle.notices.specs.declared.profiles.Profile.TheVariants.{PowerOption}
use Rattle.refusals.proofs.RuleNumbers.{refused_is}
use Rattle.schedule.specs.ListCheck.{checked_in}
use Rattle.power.specs.Refusals.{total_numbers}
use Rattle.power.proofs.RefusalLaws.{call_refuses, call_is_right, by_reference, by_notices}
use Rattle.power.proofs.guards.refusal_of.Goals as goal

pub returns-in_err-call_refusal : goal.returns-in_err-call_refusal
returns-in_err-call_refusal c =
    let p = err_from_is_err_and c.from_residual.result c.from_residual.ensures.1 in
    let asked = c.args in
    rw (p.1, p.2) (call_refuses _ _ asked.list.now asked.references.now _ total_numbers _ c.in_err-call_refusal.ensures)

pub references_refusal-requires : goal.references_refusal-requires
references_refusal-requires c =
    let asked = c.args in
    let right = call_is_right _ _ asked.list.now asked.references.now _ total_numbers 0 c.in_ok-call_refusal.ensures refl in
    omega (arith, right.few, right.as_many)

pub returns-in_err-references_refusal : goal.returns-in_err-references_refusal
returns-in_err-references_refusal c =
    let p = err_from_is_err_and c.from_residual-in_err-references_refusal.result c.from_residual-in_err-references_refusal.ensures.1 in
    let asked = c.args in
    rw (p.1, p.2)
    (by_reference _ _ asked.list.now asked.references.now _ total_numbers 0 c.in_ok-call_refusal.ensures refl
    c.in_err-references_refusal.ensures (refused_is _ c.in_err-references_refusal.field-0.0.place))

pub returns-in_err-w : goal.returns-in_err-w
returns-in_err-w c =
    let asked = c.args in
    let none : c.winter_of.result ≡ None = grind arith in
    let right = call_is_right _ _ asked.list.now asked.references.now _ total_numbers 0 c.in_ok-call_refusal.ensures refl in
    absurd (true≢false (sym (no_winter_known _ _ none c.winter_of.ensures) ∙ (winter_range _).1 right.winter))

pub returns : goal.returns
returns c =
    let asked = c.args in
    let some : c.winter_of.result ≡ Some c.in_ok-w.w = grind arith in
    let is = winter_known _ _ _ some c.winter_of.ensures in
    c.check_in.ensures
    ∙ ap (λ (w : Winter). checked_in w PowerOption asked.list.now) is.1
    ∙ by_notices _ _ asked.list.now asked.references.now _ total_numbers 0 c.in_ok-call_refusal.ensures refl c.in_ok-references_refusal.ensures refl
