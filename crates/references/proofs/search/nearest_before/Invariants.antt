-- `nearest_before` finds the reference days: the five nearest days that serve, or as many as there are.
-- The invariant: with `count` of them stored, and zeros behind these, the others that are wanted are the nearest before d that serve; and the
-- day right before d carries no event.
-- Assumes nothing.
use Rattle.references.specs.ReferenceDays.{free_in}
use Rattle.references.proofs.ReferenceLaws.{Stand}
use Rattle.references.proofs.search.nearest_before.Given as goal

abbrev pub invariant-loop-d : goal.invariant-loop-d
invariant-loop-d l = Stand l.w (free_in l.masks) l.day l.start l.days l.count l.d

abbrev pub decreases-loop-d : goal.decreases-loop-d
decreases-loop-d l = l.d
