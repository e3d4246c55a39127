-- `masks_of` walks over the notices of the list.
-- The invariant: the masks are those of the first k notices.
-- Assumes nothing.
use mathlib.Core.Path.{◌≡◌}
use Rattle.event_hours.specs.Days.{masks_to}
use Rattle.event_hours.proofs.days.masks_of.Given as goal

abbrev pub invariant-loop-k : goal.invariant-loop-k
invariant-loop-k l = l.masks ≡ masks_to l.list l.k
