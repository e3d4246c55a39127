-- Laws of faults: a clean one leaves it to what comes after, any other decides. So goes the first fault of places in two parts, and of two books
-- that agree.
-- Assumes nothing.
use Prim.Native.Nat.{ℕ}
use mathlib.Core.Bool.{true, false}
use mathlib.Core.List.{List, [], ◌∷◌, ◌++◌}
use mathlib.Core.Path.{◌≡◌, refl, sym}
use Rattle.std.specs.Prelude.{Option, Some, None}
use Rattle.laws.proofs.Every.{Every}
use Rattle.book.specs.Readings.{reading_at, first_fault}
use Rattle.book.specs.Values.{fault_of, is_clean, or_fault}
use Rattle.book.specs.declared.values.Fault.{Fault}

pub or_none : (f : Option Fault) → f ≡ or_fault f None
or_none None = refl
or_none (Some f) = refl

pub or_clean : (f g : Option Fault) → is_clean f ≡ true → g ≡ or_fault f g
or_clean None g h = refl
or_clean (Some f) g h = cc

pub or_fault_lem : (f g : Option Fault) → is_clean f ≡ false → f ≡ or_fault f g
or_fault_lem None g h = cc
or_fault_lem (Some f) g h = refl

pub or_assoc : (f g h : Option Fault) → or_fault (or_fault f g) h ≡ or_fault f (or_fault g h)
or_assoc None g h = refl
or_assoc (Some f) g h = refl

module _ (values : List ℕ) where
  pub faults_joined : (xs ys : List ℕ) → first_fault values (xs ++ ys) ≡ or_fault (first_fault values xs) (first_fault values ys)
  unfolding first_fault
  faults_joined [] ys = refl
  faults_joined (x ∷ xs) ys = rw (faults_joined xs ys) (sym (or_assoc (fault_of (reading_at values x) x) (first_fault values xs) (first_fault values ys)))

-- two lists of values that agree on some places
pub fault_agrees : (one other places : List ℕ) → Every (λ (p : ℕ). reading_at one p ≡ reading_at other p) places
    → first_fault one places ≡ first_fault other places
unfolding first_fault
fault_agrees one other [] a = refl
fault_agrees one other (p ∷ places) a = rw (a.0, fault_agrees one other places a.1)
