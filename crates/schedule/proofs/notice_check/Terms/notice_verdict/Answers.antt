-- `notice_verdict` answers by the notice's day, else by its hours, else by its length, else by the rules of the list.
-- Assumes nothing.
use mathlib.Core.Path.{◌≡◌, ◌∙◌}
use Rattle.laws.proofs.Guards.{found}
use Rattle.laws.proofs.Tables.{row_stops, row_goes}
use Rattle.notices.proofs.HourLaws.{hours_fit}
use Rattle.notices.proofs.HoursTold.{hours_go, hours_stop}
use Rattle.refusals.specs.Refusals.{rule_paper}
use Rattle.std.proofs.Common.{rules}
use Rattle.schedule.proofs.NoticeRows.{day_stops, day_goes}
use Rattle.schedule.proofs.notice_check.Terms.notice_verdict.Goals as goal

pub returns-in_err-day_verdict : goal.returns-in_err-day_verdict
returns-in_err-day_verdict c k =
    let told : rule_paper c.from_residual.result k ≡ rule_paper c.day_verdict.result k = search rules in
    told ∙ day_stops _ _ _ _ _ (c.day_verdict.ensures k) _ c.in_err-day_verdict.was

pub returns-in_err-hours_verdict : goal.returns-in_err-hours_verdict
returns-in_err-hours_verdict c k =
    let told : rule_paper c.from_residual-in_err-hours_verdict.result k ≡ rule_paper c.hours_verdict.result k = search rules in
    told
    ∙ day_goes _ _ _ _ _ (c.day_verdict.ensures k) (search rules)
    (rw c.in_err-hours_verdict.was (hours_stop _ _ _ c.hours_verdict.ensures _ _ _ c.in_err-hours_verdict.was))

pub returns-then-bad_length : goal.returns-then-bad_length
returns-then-bad_length c k =
    day_goes _ _ _ _ _ (c.day_verdict.ensures k) (search rules)
    (hours_go _ _ _ c.hours_verdict.ensures _ _ (search rules)
    (row_stops _ _ (found c.bad_length.ensures c.if-bad_length.true)))

pub list_verdict-requires : goal.list_verdict-requires
list_verdict-requires c =
    record { sofar = c.requires; notice = hours_fit _ _ c.args.self.figures (found c.bad_length.ensures c.if-bad_length.false) }

pub returns : goal.returns
returns c k =
    day_goes _ _ _ _ _ (c.day_verdict.ensures k) (search rules)
    (hours_go _ _ _ c.hours_verdict.ensures _ _ (search rules)
    (row_goes _ _ (found c.bad_length.ensures c.if-bad_length.false) (c.list_verdict.ensures k)))
