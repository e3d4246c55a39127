-- What is left to show of `nearest_before`, by the invariant in `Invariants.antt`.
-- Assumes nothing.
use Prim.Native.Nat.{◌-◌}
use mathlib.Core.Path.{refl, sym, ap, ◌∙◌}
use native.Mathlib.Omega.{arith}
use Rattle.references.specs.ReferenceDays.{refs_of}
use Rattle.references.proofs.ReferenceLaws.{tested, walk_start, walk_took, walk_passed}
use Rattle.references.proofs.SearchLaws.{search_through}
use Rattle.references.proofs.search.nearest_before.Goals as goal
use Rattle.references.proofs.search.nearest_before.Goals.{then-free_day_serves, else-free_day_serves}

pub loop-d-init : goal.loop-d-init
loop-d-init c = record { held = refl; walk = rw c.past_events-d.ensures (walk_start _ _ _ _) }

pub loop-d-preserved : goal.loop-d-preserved
loop-d-preserved c =
    let n = c.loop-d.d in
    let stand = c.loop-d.invariant in
    let is_free = stand.walk.next_free c.loop-d-test.true in
    let serves_is = tested _ _ _ _ c.requires c.lacking_day-lacking.ensures (n - 1) (omega arith) is_free c.free_day_serves.ensures in
    rw c.past_events-d-in-loop-d.ensures
    (elim c.if-free_day_serves.branch [
      | then-free_day_serves w ↦
          rw (w.days-is, w.count-is)
          (walk_took _ _ _ _ _ _ n (n - 1) (omega arith) stand c.if-count-lt5.true (sym serves_is ∙ w.if-free_day_serves.true))
      | else-free_day_serves w ↦
          rw (w.days-is, w.count-is) (walk_passed _ _ _ _ _ _ n (n - 1) (omega arith) stand (sym serves_is ∙ w.if-free_day_serves.false))
    ])

pub returns-after-loop-d : goal.returns-after-loop-d
returns-after-loop-d c =
    let stand = c.loop-d.invariant in
    stand.held ∙ ap refs_of (search_through _ _ _ c.loop-d.d stand.walk.search c.loop-d-test.false)
