-- What a search for the first fault by a closure finds: the range gives one index after another, and the closure the fault of the value at each.
-- Assumes nothing.
use Prim.Native.Nat.{ℕ, ◌+◌, ◌-◌, ◌≤◌, ◌<◌, min}
use mathlib.Core.List.{List, [], ◌∷◌}
use mathlib.Core.Logic.{⊎_elim}
use mathlib.Core.Path.{◌≡◌, refl, sym, subst, ◌∙◌}
use native.Mathlib.Omega.{arith}
use lib.ListN.{length, get_or-eq_default}
use denote.Param.Members.{Mut, Called}
use Rattle.std.proofs.iter.Yields.{nat_range_steps}
use Rattle.std.proofs.iter.runs.Sources.{range_runs}
use Rattle.std.specs.Iterator.Runs.{Run, SomeRun, AllItemsGive, IsFirstToGive, CallKeepsClosure}
use Rattle.std.specs.Prelude.{Option, Some, None, MatchOption, IfSome, IsSomeAnd, IsTrue}
use Rattle.std.proofs.lemmas.Iterator.Adapters.{option_map_id}
use Rattle.laws.proofs.Every.{Every}
use Rattle.laws.proofs.Order.{either_order}
use Rattle.book.specs.Places.{run}
use Rattle.book.specs.Readings.{reading_at, first_fault}
use Rattle.book.specs.Values.{fault_of}
use Rattle.book.specs.declared.values.Fault.{Fault}
use Rattle.book.proofs.FaultLaws.{faults_joined}
use Rattle.book.proofs.RunLaws.{run_each, run_more, run_split}

module _ (values : List ℕ) where
  -- places whose values have no fault
  none_each : (places : List ℕ) → Every (λ (p : ℕ). None ≡ fault_of (reading_at values p) p) places → None ≡ first_fault values places
  unfolding first_fault
  none_each [] a = refl
  none_each (p ∷ places) a = rw (← a.0) (none_each places a.1)

  past : (p : ℕ) → length values ≤ p → None ≡ fault_of (reading_at values p) p
  unfolding fault_of
  past p h = rw (get_or-eq_default values 0 h)

  module _ {F : Type 0} (g : Mut F (ℕ × Unit {0}) (Option Fault)) (f : F)
      (each : (x : ℕ) (r : Option Fault) (q : F) → Called g f (x, tt) r q → (q ≡ f) × (r ≡ fault_of (reading_at values x) x)) where
    keeps : CallKeepsClosure g f
    keeps a r q k = (each a.0 r q k).0

    module _ (from to end : ℕ) (e : end ≡ min to (length values)) (p : Run nat_range_steps) (starts : p.from ≡ record { start = from; end = end }) where
      short : p.len ≤ end - from
      short = rw starts at (range_runs p p.seen).0

      -- the item at a place, and the call at it
      item : (k : ℕ) → k < p.len → p.at k ≡ Some (from + k)
      item k h = sym (option_map_id (p.at k)) ∙ (rw starts at (range_runs p p.seen).3) k h

      called : (k : ℕ) (r : Option Fault) → k < p.len → IsSomeAnd (p.at k) (λ x. Called g f (x, tt) r f)
          → r ≡ fault_of (reading_at values (from + k)) (from + k)
      called k r h c = (each (from + k) r f (subst (λ o. IsSomeAnd o (λ x. Called g f (x, tt) r f)) (item k h) c)).1

      passed : (k : ℕ) → k < p.len → IfSome (p.at k) (λ x. Called g f (x, tt) None f) → None ≡ fault_of (reading_at values (from + k)) (from + k)
      passed k h c = (each (from + k) None f (subst (λ o. IfSome o (λ x. Called g f (x, tt) None f)) (item k h) c)).1

      long : IsTrue p.whole → p.len ≡ end - from
      long whole = (rw starts at (range_runs p p.seen).1) whole

      none_found : IsTrue p.whole → AllItemsGive p g f None → None ≡ first_fault values (run from to)
      none_found whole all =
          none_each (run from to)
          (run_each (λ (x : ℕ). None ≡ fault_of (reading_at values x) x) from to
          (λ x b t. ⊎_elim
          (λ (h : x < end). let at : from + (x - from) ≡ x = omega arith in rw at at (passed (x - from) (omega (arith, long whole)) (all keeps (x - from))))
          (λ (h : end ≤ x). past x (omega arith))
          (either_order x end)))

      some_found : (y : Fault) (i : ℕ) → i < p.len → IsFirstToGive p g f (Some y) None i → Some y ≡ first_fault values (run from to)
      unfolding first_fault
      some_found y i among first =
          let calls = first keeps in
          let here : Some y ≡ fault_of (reading_at values (from + i)) (from + i) = called i (Some y) among calls.0 in
          let before : None ≡ first_fault values (run from (from + i)) =
          none_each (run from (from + i))
          (run_each (λ (x : ℕ). None ≡ fault_of (reading_at values x) x) from (from + i)
          (λ x b t. let at : from + (x - from) ≡ x = omega arith in
          rw at at (called (x - from) None (omega (arith, among)) (calls.1 (x - from) (omega arith))))) in
          rw (
            run_split from (from + i) to (omega arith) (omega (arith, short)),
            faults_joined values (run from (from + i)) (run (from + i) to),
            ← before,
            run_more (from + i) to (omega (arith, short)),
            ← here,
          )

    pub found : (from to end : ℕ) (r : Option Fault) → end ≡ min to (length values)
        → SomeRun nat_range_steps (record { start = from; end = end })
        (λ p. MatchOption r (IsTrue p.whole × AllItemsGive p g f None) (λ y. (i : ℕ) × (i < p.len) × (p.len ≡ i + 1) × IsFirstToGive p g f (Some y) None i))
        → r ≡ first_fault values (run from to)
    found from to end None e s = none_found from to end e s.0 s.1 s.2.0 s.2.1
    found from to end (Some y) e s = some_found from to end e s.0 s.1 y s.2.0 s.2.1 s.2.3
