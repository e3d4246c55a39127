-- The figures of a profile are sane.
-- Assumes nothing.
use Rattle.notices.specs.Sane.{sane}
use Rattle.schedule.proofs.notice_check.Terms.of.Goals as goal

pub invariant_of-result : goal.invariant_of-result
invariant_of-result c = record { winter = c.requires; figures = rw c.figures.ensures (sane _) }
