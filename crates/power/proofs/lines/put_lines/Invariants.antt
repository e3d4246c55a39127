-- `put_lines` puts a line a turn and adds up what it says. The invariant (`Carried`): the first k lines are there, and the sums are theirs.
-- Assumes nothing.
use Rattle.notices.specs.Notices.{count_of}
use Rattle.power.specs.Reduced.{reduced_at}
use Rattle.power.proofs.Carried.{Carried}
use Rattle.power.proofs.lines.put_lines.Given as goal

abbrev pub invariant-loop-k : goal.invariant-loop-k
invariant-loop-k l = Carried (reduced_at l.book l.list l.references) l.initial.out (count_of l.list) l.out l.sum l.settled l.k
