-- `check_lent` answers 1 for no winter, then 5 for no profile, else by the list in that winter.
-- Assumes nothing.
use mathlib.Core.Path.{◌≡◌, sym, ◌∙◌}
use Rattle.calendar.proofs.Answered.{no_winter_known, winter_known}
use Rattle.calendar.proofs.Promise.{facts_right}
use Rattle.laws.proofs.Tables.{row_stops, row_goes}
use Rattle.laws.specs.Table.{refusal_at}
use Rattle.notices.proofs.ProfileLaws.{unnamed}
use Rattle.refusals.specs.Refusals.{verdict_paper}
use Rattle.refusals.specs.declared.rule.Rule.TheVariants.{NoProfile}
use Rattle.std.proofs.Common.{rules}
use Rattle.std.specs.Prelude.{Some, None}
use Rattle.schedule.specs.ListCheck.{check_table, check_answer}
use Rattle.schedule.proofs.RuleLaws.{no_profile_lem, of_profile}
use Rattle.schedule.proofs.lent_check.check_lent.Goals as goal

pub returns-in_err-w : goal.returns-in_err-w
unfolding check_answer check_table
returns-in_err-w c =
    let none : c.winter_of.result ≡ None = search rules in
    let told : verdict_paper c.from_residual.result ≡ refusal_at 1 0 = search rules in
    told ∙ row_stops _ _ (no_winter_known _ _ none c.winter_of.ensures)

pub returns-in_err-p : goal.returns-in_err-p
unfolding check_answer check_table
returns-in_err-p c =
    let some : c.winter_of.result ≡ Some c.in_ok-w.w = search rules in
    let rule : c.in_err-p.field-0.0 ≡ NoProfile = unnamed _ _ (sym c.try_from.ensures ∙ c.in_err-p.was) in
    let told : verdict_paper c.from_residual-in_err-p.result ≡ refusal_at 5 0 = search rules in
    told
    ∙ row_goes _ _ (winter_known _ _ _ some c.winter_of.ensures).0
    (row_stops _ _ (no_profile_lem _ _ _ c.try_from.ensures c.in_err-p.was))

pub check_lent_in-requires : goal.check_lent_in-requires
check_lent_in-requires c =
    let some : c.winter_of.result ≡ Some c.in_ok-w.w = search rules in
    rw (winter_known _ _ _ some c.winter_of.ensures).1 (facts_right _)

pub returns : goal.returns
unfolding check_answer check_table
returns c =
    let some : c.winter_of.result ≡ Some c.in_ok-w.w = search rules in
    let is = winter_known _ _ _ some c.winter_of.ensures in
    row_goes _ _ is.0 (of_profile _ _ _ _ _ _ c.try_from.ensures c.in_ok-p.was is.1 c.check_lent_in.ensures)
