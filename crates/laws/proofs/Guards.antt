-- Guards: what the test of a callee's result tells of what the callee computes, and of the parts of a test.
-- Assumes nothing.
use mathlib.Core.Bool.{Bool, true, false, beq, ◌&&◌, ◌||◌, and-eq-true_iff}
use mathlib.Core.Logic.{◌↔◌}
use mathlib.Core.Path.{◌≡◌, refl, sym, ◌∙◌}
use mathlib.Mathlib.Data.Bool.Basic.{or-eq-false-eq-eq-false-and-eq-false}

-- the result r of a callee that ensures r ≡ s came out as t
pub found : {r s t : Bool} → r ≡ s → r ≡ t → s ≡ t
found e t = sym e ∙ t

-- a test of two parts that passed, and one that found no fault
pub both : (a b : Bool) → (a && b) ≡ true → (a ≡ true) × (b ≡ true)
both a b e = (and-eq-true_iff a b).0 e

pub neither : (a b : Bool) → (a || b) ≡ false → (a ≡ false) × (b ≡ false)
neither a b e = (or-eq-false-eq-eq-false-and-eq-false a b).0 e

pub no_fault : (a b : Bool) → a ≡ false → b ≡ false → (a || b) ≡ false
no_fault a b p q = (or-eq-false-eq-eq-false-and-eq-false a b).1 (p, q)

-- a test that passes exactly where another does
pub same_test : (a b : Bool) → (a ≡ true → b ≡ true) → (b ≡ true → a ≡ true) → a ≡ b
same_test true b to from = sym (to refl)
same_test false true to from = from refl
same_test false false to from = refl

-- two tests that came out alike
pub same_bits : (a b : Bool) → (beq a b ≡ true) ↔ (a ≡ b)
same_bits true true = (λ e. refl, λ e. refl)
same_bits true false = (λ e. sym e, λ e. sym e)
same_bits false true = (λ e. e, λ e. e)
same_bits false false = (λ e. refl, λ e. refl)
