-- `past_events` walks back over days that carry an event. The invariant: from d on it comes to the same day.
-- Assumes nothing.
use Rattle.references.specs.ReferenceDays.{free_in}
use Rattle.references.proofs.PastEvents.{Onward}
use Rattle.references.proofs.search.past_events.Given as goal

abbrev pub invariant-loop-d : goal.invariant-loop-d
invariant-loop-d l = Onward (free_in l.masks) l.day l.d
