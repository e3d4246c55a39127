-- Some number below n passes a test exactly when the test of all of them says so: by the last of them, or by one below it.
-- Assumes nothing.
use Prim.Native.Nat.{ℕ, zero, suc, ◌<◌}
use mathlib.Core.Bool.{Bool, true, false, ◌||◌, true≢false}
use mathlib.Core.Logic.{⊎_elim, ◌↔◌}
use mathlib.Core.Path.{◌≡◌, refl, sym}
use mathlib.Mathlib.Data.Bool.Basic.{or_inr}
use native.Mathlib.Nat.{eq-or-lt_of_le, le_of_suc-le-suc}
use native.Mathlib.Omega.{arith}
use Rattle.laws.specs.Below.{some_below}

pub record Passing (n : ℕ) (test : ℕ → Bool) : Type 0 where
  pub which : ℕ
  pub below : which < n
  pub passes : test which ≡ true

found_here : (n : ℕ) (test : ℕ → Bool) → (some_below n test ≡ true → Passing n test)
    → (b : Bool) → test n ≡ b → (b || some_below n test) ≡ true → Passing (suc n) test
found_here n test lower true q e = record { which = n; below = omega arith; passes = q }
found_here n test lower false q e =
    let p = lower e in
    record { which = p.which; below = omega (arith, p.below); passes = p.passes }

some_found : (n : ℕ) (test : ℕ → Bool) → some_below n test ≡ true → Passing n test
unfolding some_below
some_found zero test e = absurd (true≢false (sym e))
some_found (suc n) test e = found_here n test (some_found n test) (test n) refl e

some_there : (n : ℕ) (test : ℕ → Bool) (k : ℕ) → k < n → test k ≡ true → some_below n test ≡ true
unfolding some_below
some_there zero test k h e = absurd (omega arith)
some_there (suc n) test k h e =
    ⊎_elim (λ (q : k ≡ n). rw (← q, e))
    (λ (l : k < n). or_inr (test n) (some_below n test) (some_there n test k l e))
    (eq-or-lt_of_le (le_of_suc-le-suc h))

pub some_iff : (n : ℕ) (test : ℕ → Bool) → (some_below n test ≡ true) ↔ Passing n test
some_iff n test = (some_found n test, λ p. some_there n test p.which p.below p.passes)
