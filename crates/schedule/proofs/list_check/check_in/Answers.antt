-- `check_in` answers 1 for facts that are no winter's, then 4 for a bad list, else by its notices; the figures of a profile are sane.
-- Assumes nothing.
use native.Mathlib.Omega.{arith}
use Rattle.laws.proofs.Guards.{found}
use Rattle.laws.proofs.Tables.{row_stops, row_goes}
use Rattle.schedule.specs.ListCheck.{checked_in}
use Rattle.schedule.proofs.Walk.{list_fits}
use Rattle.schedule.proofs.list_check.check_in.Goals as goal

pub returns-then-wrong_winter : goal.returns-then-wrong_winter
unfolding checked_in
returns-then-wrong_winter c = rw c.into.ensures (row_stops _ _ (found c.wrong_winter.ensures c.if-wrong_winter.true))

pub returns-then-bad_list : goal.returns-then-bad_list
unfolding checked_in
returns-then-bad_list c =
    rw c.into-then-bad_list.ensures
    (row_goes _ _ (found c.wrong_winter.ensures c.if-wrong_winter.false)
    (row_stops _ _ (found c.bad_list.ensures c.if-bad_list.true)))

pub check_notices-requires : goal.check_notices-requires
check_notices-requires c =
    let fits = list_fits _ (found c.bad_list.ensures c.if-bad_list.false) in
    let count = c.count_in.ensures in
    record { few = omega arith; there = omega arith }

pub of-requires : goal.of-requires
of-requires c = found c.wrong_winter.ensures c.if-wrong_winter.false

pub returns : goal.returns
unfolding checked_in
returns c =
    row_goes _ _ (found c.wrong_winter.ensures c.if-wrong_winter.false)
    (row_goes _ _ (found c.bad_list.ensures c.if-bad_list.false)
    (rw (← c.of.ensures.f, ← c.of.ensures.w, ← c.count_in.ensures) c.check_notices.ensures))
