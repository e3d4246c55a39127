-- `easter_t` is the formula of rule 1.13 step by step, with 20 for b: no difference falls below 0 and no sum wraps.
-- Assumes nothing.
use mir.Facts.{Fits-le, Fits-lit}
use Rattle.calendar.specs.Easter.{easter_t}
use Rattle.calendar.proofs.Bounds.{easter_sum, century_rest}
use Rattle.calendar.proofs.easter.easter_t.Goals as goal

pub overflow_add-result-2 : goal.overflow_add-result-2
overflow_add-result-2 c = Fits-le (easter_sum _ _ _) (Fits-lit tt)

pub returns : goal.returns
unfolding easter_t
returns c = rw (c.requires, century_rest _ c.requires)
