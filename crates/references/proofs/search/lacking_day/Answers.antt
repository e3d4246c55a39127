-- `lacking_day` gives none where none can lack an hour, else the Sunday the clocks go forward.
-- Assumes nothing.
use native.Mathlib.Omega.{arith}
use Rattle.calendar.proofs.Promise.{days_few}
use Rattle.references.specs.Search.{none_lacks}
use Rattle.references.proofs.LackingDay.{lacking_sunday, lacking_none}
use Rattle.references.proofs.search.lacking_day.Goals as goal

pub overflow_sub-w : goal.overflow_sub-w
overflow_sub-w c = omega (arith, days_few _ c.requires)

pub returns-then-not-contains : goal.returns-then-not-contains
unfolding none_lacks
returns-then-not-contains c = lacking_none _ _ _ (grind arith)

pub returns : goal.returns
unfolding none_lacks
returns c = lacking_sunday _ _ _ c.requires (grind arith) c.clocks_forward.ensures
