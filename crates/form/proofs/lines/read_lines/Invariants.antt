-- The read lines and the first misplaced one are the definition's, and their values are put into the book. Invariant: what is left of them
-- ends and puts as all do, and has the first misplaced line unless one was found (`ReadWalk`).
-- Assumes nothing.
use Rattle.form.proofs.ReadWalk.{ReadsLeft}
use Rattle.form.proofs.lines.read_lines.Given as goal

abbrev pub invariant-loop-k : goal.invariant-loop-k
invariant-loop-k l = ReadsLeft l.days l.text l.at l.reads l.first l.initial.book l.book l.next l.end l.found l.k
