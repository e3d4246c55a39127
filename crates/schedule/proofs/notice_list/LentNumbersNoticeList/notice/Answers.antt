-- `notice` of lent numbers reads the three numbers of a notice in its part of the bytes.
-- Assumes nothing.
use native.Mathlib.Omega.{arith}
use Rattle.schedule.proofs.LentLaws.{lent_there}
use Rattle.schedule.proofs.notice_list.LentNumbersNoticeList.notice.Goals as goal

pub overflow_mul-from : goal.overflow_mul-from
overflow_mul-from c = omega (arith, lent_there _ _ c.args.self.whole c.requires)

pub overflow_add-part : goal.overflow_add-part
overflow_add-part c = omega (arith, lent_there _ _ c.args.self.whole c.requires)

pub slice_bounds-part-end : goal.slice_bounds-part-end
slice_bounds-part-end c = omega (arith, lent_there _ _ c.args.self.whole c.requires)
