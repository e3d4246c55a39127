-- How an answer came about: which branch of a test gave it, and what came first where it went on after a field, a number or a step.
-- Assumes nothing.
use Prim.Native.Nat.{ℕ}
use mathlib.Core.Bool.{Bool, true, false, cond}
use mathlib.Core.Path.{◌≡◌, refl, ap}
use lib.Dec.{eqb}
use borrow.Author.Tests.{eqb-true}
use Rattle.std.proofs.lemmas.Option.{none-some, same_Some}
use Rattle.std.specs.Prelude.{Option, Some, None}
use Rattle.numerals.specs.Fields.{after_field, after_number, after_step, field, number}
use Rattle.numerals.specs.declared.fields.Field.{Field}
use Rattle.numerals.specs.declared.fields.Number.{Number}

-- which branch of a test gave an answer: either, the first alone, the second alone
module _ {A : Type 0} where
  pub either : {P : Type 0} {z : A} (t : Bool) (x y : A) → cond t x y ≡ z → (t ≡ true → x ≡ z → P) → (t ≡ false → y ≡ z → P) → P
  either true x y e f g = f refl e
  either false x y e f g = g refl e

  pub first : {z : A} (t : Bool) (x y : A) → (y ≡ z → ⊥) → cond t x y ≡ z → (t ≡ true) × (x ≡ z)
  first true x y never e = (refl, e)
  first false x y never e = absurd (never e)

  pub second : {z : A} (t : Bool) (x y : A) → (x ≡ z → ⊥) → cond t x y ≡ z → (t ≡ false) × (y ≡ z)
  second true x y never e = absurd (never e)
  second false x y never e = (refl, e)

-- what is broken is no field, no number and no step
pub no_field : (n c q : ℕ) → None ≡ Some (field n c q) → ⊥
no_field n c q e = none-some (field n c q) e

pub no_number : (n q : ℕ) → None ≡ Some (number n q) → ⊥
no_number n q e = none-some (number n q) e

pub no_step : (q : ℕ) → None ≡ Some q → ⊥
no_step q e = none-some q e

-- two fields, two numbers and two rows that are the same are so part by part
pub field_parts : {v b p w c q : ℕ} → Some (field v b p) ≡ Some (field w c q) → (v ≡ w) × (b ≡ c) × (p ≡ q)
field_parts e =
    let same = same_Some _ _ e in
    (ap (λ (x : Field). x.value) same, ap (λ (x : Field). x.end) same, ap (λ (x : Field). x.next) same)

pub number_parts : {v p w q : ℕ} → Some (number v p) ≡ Some (number w q) → (v ≡ w) × (p ≡ q)
number_parts e = let same = same_Some _ _ e in (ap (λ (x : Number). x.value) same, ap (λ (x : Number). x.next) same)

-- what came first where it went on after a field that a certain byte ends, after a number, or after a step
module _ {A P : Type 0} {z : A} (broken : A) (never : broken ≡ z → ⊥) where
  pub after_field_lem : (end : ℕ) (x : Option Field) (go : ℕ → ℕ → A) → after_field broken end x go ≡ z
      → ((v p : ℕ) → x ≡ Some (field v end p) → go v p ≡ z → P) → P
  after_field_lem end (Some f) go e on =
      let t = first (eqb f.end end) (go f.value f.next) broken never e in
      on f.value f.next (ap (λ (c : ℕ). Some (field f.value c f.next)) (eqb-true f.end end t.0)) t.1
  after_field_lem end None go e on = absurd (never e)

  pub after_number_lem : (x : Option Number) (go : ℕ → ℕ → A) → after_number broken x go ≡ z → ((v p : ℕ) → x ≡ Some (number v p) → go v p ≡ z → P) → P
  after_number_lem (Some n) go e on = on n.value n.next refl e
  after_number_lem None go e on = absurd (never e)

  pub after_step_lem : (x : Option ℕ) (go : ℕ → A) → after_step broken x go ≡ z → ((p : ℕ) → x ≡ Some p → go p ≡ z → P) → P
  after_step_lem (Some p) go e on = on p refl e
  after_step_lem None go e on = absurd (never e)
