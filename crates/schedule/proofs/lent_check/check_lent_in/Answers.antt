-- `check_lent_in` answers 4 for bytes that are no list, else by their notices; the figures of a profile are sane.
-- Assumes nothing.
use native.Mathlib.Omega.{arith}
use Rattle.laws.proofs.Guards.{found}
use Rattle.laws.proofs.Tables.{row_stops, row_goes}
use Rattle.schedule.specs.ListCheck.{checked_in}
use Rattle.schedule.proofs.LentLaws.{lent_bad, lent_list_lem}
use Rattle.schedule.proofs.lent_check.check_lent_in.Goals as goal

pub returns-then-bad_list : goal.returns-then-bad_list
unfolding checked_in
returns-then-bad_list c =
    rw c.into.ensures
    (row_goes _ _ c.requires
    (row_stops _ _ (lent_bad c.args.list.now _ c.numbers_in-numbers.ensures (found c.bad_list.ensures c.if-bad_list.true))))

pub invariant_of-whole : goal.invariant_of-whole
invariant_of-whole c =
    record { whole = (lent_list_lem c.args.list.now _ c.numbers_in-numbers.ensures (found c.bad_list.ensures c.if-bad_list.false)).whole }

pub check_notices-requires : goal.check_notices-requires
check_notices-requires c =
    let list = lent_list_lem c.args.list.now _ c.numbers_in-numbers.ensures (found c.bad_list.ensures c.if-bad_list.false) in
    let count = c.count_in.ensures in
    record { few = omega (arith, list.few); there = omega (arith, list.there) }

pub returns : goal.returns
unfolding checked_in
returns c =
    let kept = found c.bad_list.ensures c.if-bad_list.false in
    let list = lent_list_lem c.args.list.now _ c.numbers_in-numbers.ensures kept in
    row_goes _ _ c.requires
    (row_goes _ _ (lent_bad c.args.list.now _ c.numbers_in-numbers.ensures kept)
    (rw (← c.of.ensures.f, ← c.of.ensures.w, ← list.there, ← c.count_in.ensures) c.check_notices.ensures))
