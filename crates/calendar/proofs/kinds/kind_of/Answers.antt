-- `kind_of` answers 1 for facts that are no winter's, then 10 for no book day, else the kind.
-- Assumes nothing.
use mathlib.Core.Path.{refl}
use Rattle.laws.proofs.Guards.{found}
use Rattle.calendar.proofs.FactLaws.{kind_given}
use Rattle.calendar.proofs.kinds.kind_of.Goals as goal

pub returns : goal.returns
returns c =
    kind_given _ _ (found c.wrong_winter.ensures c.if-wrong_winter.false) _ _ _
    c.if-w-day.false refl c.is_weekend.ensures c.is_excluded.ensures
