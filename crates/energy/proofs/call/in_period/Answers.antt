-- `in_period` goes by the calendar's answer on the day.
-- Assumes nothing.
use borrow.Author.Rules.{rules}
use Rattle.energy.proofs.CallLaws.{period_told}
use Rattle.energy.proofs.call.in_period.Goals as goal

pub returns : goal.returns
returns c =
    period_told _ _ _ _ c.requires c.kind_of.ensures
    (λ kind q. let told = rw q at c.is_ok_and.ensures in search rules)
    (λ e q. let told = rw q at c.is_ok_and.ensures in search rules)
