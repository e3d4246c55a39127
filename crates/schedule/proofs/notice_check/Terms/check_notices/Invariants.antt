-- `check_notices` walks the notices.
-- The invariant, `WalkedTo`: what stands before notice k is what the list has before it, and no notice before it is refused.
-- Assumes nothing.
use Rattle.schedule.proofs.Walk.{WalkedTo}
use Rattle.schedule.proofs.notice_check.Terms.check_notices.Given as goal

abbrev pub invariant-loop-k : goal.invariant-loop-k
invariant-loop-k g l = WalkedTo l.self.w l.self.f (g.L.NoticeList.numbers l.list) l.count l.so l.k
