-- `weekday_of` answers 1 for no winter, then 10 for no book day, else the weekday.
-- Assumes nothing.
use mathlib.Core.Path.{ap}
use native.Mathlib.Omega.{arith}
use Rattle.dates.proofs.Promise.{days_range}
use Rattle.calendar.specs.declared.answers.Winter.{Winter}
use Rattle.calendar.proofs.FactLaws.{no_weekday, weekday_given}
use Rattle.calendar.proofs.Answered.{winter_known}
use Rattle.calendar.proofs.Promise.{facts_days}
use Rattle.calendar.proofs.weekdays.weekday_of.Goals as goal

pub returns-then-w-day : goal.returns-then-w-day
returns-then-w-day c =
    let is = winter_known _ c.winter_of.result c.in_ok-w.w (grind arith) c.winter_of.ensures in
    no_weekday _ _ _ is.0 is.1 c.if-w-day.true

pub weekday_in-requires : goal.weekday_in-requires
weekday_in-requires c =
    let winter = c.args.winter in
    let is = winter_known _ c.winter_of.result c.in_ok-w.w (grind arith) c.winter_of.ensures in
    omega (arith, c.if-w-day.false, ap (λ (w : Winter). w.days) is.1, facts_days winter, days_range winter)

pub returns : goal.returns
returns c =
    let is = winter_known _ c.winter_of.result c.in_ok-w.w (grind arith) c.winter_of.ensures in
    weekday_given _ _ _ is.0 is.1 _ c.if-w-day.false c.weekday_in.ensures
