-- `barred_weekend` asks for the kind of the day where the figures have no weekends.
-- Assumes nothing.
use mathlib.Core.Path.{◌≡◌}
use Rattle.calendar.proofs.Answered.{kind_in}
use Rattle.std.proofs.Common.{rules}
use Rattle.std.specs.Prelude.{Ok}
use Rattle.schedule.proofs.RuleLaws.{in_the_book, weekend_barred}
use Rattle.schedule.proofs.notice_check.Terms.barred_weekend.Goals as goal

pub returns-then-not-self : goal.returns-then-not-self
returns-then-not-self c i =
    let is : c.kind_of.result ≡ Ok (kind_in c.args.self.w c.args.n.day) = in_the_book _ c.args.n _ c.args.self.winter c.kind_of.ensures i in
    weekend_barred _ _ _ (search rules)

pub returns-else-not-self : goal.returns-else-not-self
returns-else-not-self c i = weekend_barred _ _ _ (search rules)
