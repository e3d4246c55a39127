-- `day_verdict` tries 10, 11 and 12 in their order: one way out for each row of the table, and one past them all.
-- Assumes nothing.
use Rattle.laws.proofs.Guards.{found}
use Rattle.laws.proofs.Tables.{row_stops, row_goes, rows_end}
use Rattle.schedule.specs.ListCheck.{day_rows}
use Rattle.schedule.proofs.RuleLaws.{past_the_book, outside_on, in_period_lem, excluded_on}
use Rattle.schedule.proofs.notice_check.Terms.day_verdict.Goals as goal

pub returns-in_default : goal.returns-in_default
unfolding day_rows
returns-in_default c k = row_stops _ _ (past_the_book _ _ _ c.args.self.winter c.kind_of.ensures _ c.in_default.is)

pub returns-then-not-day : goal.returns-then-not-day
unfolding day_rows
returns-then-not-day c k = row_stops _ _ (outside_on _ _ _ c.args.self.winter c.kind_of.ensures _ c.in-Ok.is c.if-not-day.true)

pub returns-then-day : goal.returns-then-day
unfolding day_rows
returns-then-day c k =
    row_goes _ _ (outside_on _ _ _ c.args.self.winter c.kind_of.ensures _ c.in-Ok.is c.if-not-day.false)
    (row_stops _ _ (excluded_on _ _ _ c.args.self.winter c.kind_of.ensures _ c.in-Ok.is c.if-day.true))

pub returns-then-barred_weekend : goal.returns-then-barred_weekend
unfolding day_rows
returns-then-barred_weekend c k =
    let inside = in_period_lem _ c.args.n _ c.args.self.winter c.kind_of.ensures _ c.in-Ok.is c.if-not-day.false in
    row_goes _ _ (outside_on _ _ _ c.args.self.winter c.kind_of.ensures _ c.in-Ok.is c.if-not-day.false)
    (row_goes _ _ (excluded_on _ _ _ c.args.self.winter c.kind_of.ensures _ c.in-Ok.is c.if-day.false)
    (row_stops _ _ (found (c.barred_weekend.ensures inside) c.if-barred_weekend.true)))

pub returns : goal.returns
unfolding day_rows
returns c k =
    let inside = in_period_lem _ c.args.n _ c.args.self.winter c.kind_of.ensures _ c.in-Ok.is c.if-not-day.false in
    row_goes _ _ (outside_on _ _ _ c.args.self.winter c.kind_of.ensures _ c.in-Ok.is c.if-not-day.false)
    (row_goes _ _ (excluded_on _ _ _ c.args.self.winter c.kind_of.ensures _ c.in-Ok.is c.if-day.false)
    (row_goes _ _ (found (c.barred_weekend.ensures inside) c.if-barred_weekend.false) rows_end))
