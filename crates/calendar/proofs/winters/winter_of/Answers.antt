-- `winter_of` answers 1 for no winter, else the facts, with the first days of December and March as the table of months has them. A winter's
-- years lie in the century that the functions on years ask for.
-- Assumes nothing.
use native.Mathlib.Omega.{arith}
use Rattle.dates.proofs.Promise.{winter_range, is_winter, winter_count}
use Rattle.calendar.proofs.FactLaws.{facts_given, easter_fits}
use Rattle.calendar.proofs.winters.winter_of.Goals as goal

pub first_weekday-requires : goal.first_weekday-requires
first_weekday-requires c =
    let is = is_winter _ _ _ c.in_ok-days.was c.winter_days.ensures in
    omega (arith, (winter_range c.args.winter).0 is)

pub easter_after-requires : goal.easter_after-requires
easter_after-requires c =
    let is = is_winter _ _ _ c.in_ok-days.was c.winter_days.ensures in
    omega (arith, (winter_range c.args.winter).0 is)

pub overflow_add-result : goal.overflow_add-result
overflow_add-result c =
    let is = is_winter _ _ _ c.in_ok-days.was c.winter_days.ensures in
    omega (arith, easter_fits _ _ _ is c.first_of-2.ensures c.easter_after.ensures)

pub returns : goal.returns
returns c =
    let counted = c.winter_days.ensures in
    facts_given _ _ _ _ _ _ (is_winter _ _ _ c.in_ok-days.was counted) (winter_count _ _ _ c.in_ok-days.was counted)
    c.first_of.ensures
    c.first_weekday.ensures
    c.first_of-2.ensures
    c.easter_after.ensures
