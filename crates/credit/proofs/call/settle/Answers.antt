-- `settle` decides everything that can refuse, and only then writes. Where the call is not refused its winter is one, whose facts are worked out
-- once.
-- Assumes nothing.
use mathlib.Core.Bool.{false, true≢false}
use mathlib.Core.Path.{◌≡◌, refl, sym, ap, ◌∙◌}
use native.Mathlib.Omega.{arith}
use lib.ListN.{length}
use Rattle.std.proofs.lemmas.Result.{err_from_is_err_and}
use Rattle.std.specs.Prelude.{Some, None}
use Rattle.calendar.proofs.Answered.{no_winter_known, winter_known}
use Rattle.calendar.specs.declared.answers.Winter.{Winter}
use Rattle.dates.proofs.Promise.{winter_range}
use Rattle.laws.specs.Table.{is_refusal}
use Rattle.notices.specs.declared.profiles.Profile.TheVariants.{Credit}
use Rattle.schedule.specs.ListCheck.{checked_in}
use Rattle.credit.proofs.RefusalLaws.{call_refuses, refusal_notices, call_is_right, right_fits}
use Rattle.credit.proofs.SettlementLaws.{refused_lem, refused_answer, settled_accepted, written_by_lem, written_accepted}
use Rattle.credit.proofs.WayLaws.{totals_same, lines_are}
use Rattle.credit.proofs.call.settle.Goals as goal

pub returns-in_err-call_refusal : goal.returns-in_err-call_refusal
returns-in_err-call_refusal c =
    let p = err_from_is_err_and c.from_residual.result c.from_residual.ensures.1 in
    let book = c.args.book.now in
    let list = c.args.list.now in
    let out = c.args.out.now in
    let said = call_refuses _ (length book) _ list (length out) _ c.in_err-call_refusal.ensures in
    rw (p.1, p.2)
    (record {
      value = refused_answer _ _ book list (length out) _ said;
      out_after = sym (written_by_lem _ _ book list out (refused_lem _ _ book list (length out) _ said));
    })

pub returns-in_err-w : goal.returns-in_err-w
returns-in_err-w c =
    let none : c.winter_of.result ≡ None = grind arith in
    let right = call_is_right _ (length c.args.book.now) _ c.args.list.now _ 0 c.in_ok-call_refusal.ensures refl in
    absurd (true≢false (sym (no_winter_known _ _ none c.winter_of.ensures) ∙ (winter_range _).1 right.winter))

pub returns-in_err-check_in : goal.returns-in_err-check_in
returns-in_err-check_in c =
    let p = err_from_is_err_and c.from_residual-in_err-check_in.result c.from_residual-in_err-check_in.ensures.1 in
    let book = c.args.book.now in
    let list = c.args.list.now in
    let out = c.args.out.now in
    let some : c.winter_of.result ≡ Some c.in_ok-w.w = grind arith in
    let is = winter_known _ _ _ some c.winter_of.ensures in
    let said =
    c.in_err-check_in.ensures
    ∙ ap (λ (w : Winter). checked_in w Credit list) is.1
    ∙ refusal_notices _ (length book) _ list (length out) 0 c.in_ok-call_refusal.ensures refl in
    rw (p.1, p.2)
    (record {
      value = refused_answer _ _ book list (length out) _ said;
      out_after = sym (written_by_lem _ _ book list out (refused_lem _ _ book list (length out) _ said));
    })

pub put_lines-requires : goal.put_lines-requires
put_lines-requires c = right_fits (call_is_right _ (length c.args.book.now) _ c.args.list.now _ 0 c.in_ok-call_refusal.ensures refl)

pub returns : goal.returns
returns c =
    let book = c.args.book.now in
    let list = c.args.list.now in
    let out = c.args.out.now in
    let some : c.winter_of.result ≡ Some c.in_ok-w.w = grind arith in
    let is = winter_known _ _ _ some c.winter_of.ensures in
    let stand : is_refusal (checked_in c.in_ok-w.w Credit list) ≡ false = ap is_refusal (sym c.in_ok-check_in.ensures) in
    let notices = refusal_notices _ (length book) _ list (length out) 0 c.in_ok-call_refusal.ensures refl in
    let none = ap is_refusal (sym notices) ∙ (rw is.1 at stand) in
    record {
      value = rw c.put_lines.ensures.value (totals_same _ _ book list _ is.0 is.1 stand ∙ sym (settled_accepted _ _ book list (length out) none));
      out_after = c.put_lines.ensures.out_after ∙ lines_are _ _ book list _ is.0 is.1 stand out ∙ sym (written_accepted _ _ book list out none);
    }
