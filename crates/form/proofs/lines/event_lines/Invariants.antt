-- The event lines are the definition's, and their numbers are stored. Invariant: what is left of them ends and stores as all do (`EventWalk`).
-- Assumes nothing.
use Rattle.form.proofs.EventWalk.{EventsLeft}
use Rattle.form.proofs.lines.event_lines.Given as goal

abbrev pub invariant-loop-k : goal.invariant-loop-k
invariant-loop-k l = EventsLeft l.text l.at l.events l.initial.list l.list l.next l.k
