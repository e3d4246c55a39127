-- The hours of a list that pass any test: in two parts, where all pass, where none does; they pass, and what holds of all holds of them. Of a run
-- of hours, where the test passes in one run of them alone, it is that run.
-- Assumes nothing.
use Prim.Native.Nat.{ℕ, ◌≤◌, ◌<◌}
use mathlib.Core.Bool.{Bool, true, false, cond}
use mathlib.Core.List.{List, [], ◌∷◌, ◌++◌, append-nil}
use mathlib.Core.Path.{◌≡◌, refl, ap}
use native.Mathlib.Omega.{arith}
use Rattle.book.proofs.RunLaws.{run_each, run_split}
use Rattle.book.specs.Places.{run}
use Rattle.laws.proofs.Every.{Every}
use Rattle.references.specs.WarmUp.{those}

module _ (ok : ℕ → Bool) where
  pub those_split : (xs ys : List ℕ) → those ok (xs ++ ys) ≡ those ok xs ++ those ok ys
  unfolding those
  those_split [] ys = refl
  those_split (x ∷ xs) ys = by (ok x) (those_split xs ys)
    where
      by : (b : Bool) → those ok (xs ++ ys) ≡ those ok xs ++ those ok ys
          → cond b (x ∷ those ok (xs ++ ys)) (those ok (xs ++ ys)) ≡ cond b (x ∷ those ok xs) (those ok xs) ++ those ok ys
      by true e = ap (λ (hs : List ℕ). x ∷ hs) e
      by false e = e

  those_all : (xs : List ℕ) → Every (λ (x : ℕ). ok x ≡ true) xs → those ok xs ≡ xs
  unfolding those
  those_all [] all = refl
  those_all (x ∷ xs) all = rw (all.0, those_all xs all.1)

  those_none : (xs : List ℕ) → Every (λ (x : ℕ). ok x ≡ false) xs → those ok xs ≡ []
  unfolding those
  those_none [] none = refl
  those_none (x ∷ xs) none = rw none.0 (those_none xs none.1)

  -- what holds of all holds of those
  pub those_each : (P : ℕ → Type 0) (xs : List ℕ) → Every P xs → Every P (those ok xs)
  unfolding those
  those_each P [] all = tt
  those_each P (x ∷ xs) all = by (ok x) (those_each P xs all.1)
    where
      by : (b : Bool) → Every P (those ok xs) → Every P (cond b (x ∷ those ok xs) (those ok xs))
      by true rest = (all.0, rest)
      by false rest = rest

  pub those_pass : (xs : List ℕ) → Every (λ (x : ℕ). ok x ≡ true) (those ok xs)
  unfolding those
  those_pass [] = tt
  those_pass (x ∷ xs) = by (ok x) refl (those_pass xs)
    where
      by : (b : Bool) → ok x ≡ b → Every (λ (x : ℕ). ok x ≡ true) (those ok xs) → Every (λ (x : ℕ). ok x ≡ true) (cond b (x ∷ those ok xs) (those ok xs))
      by true e rest = (e, rest)
      by false e rest = rest

  abbrev Pass : ℕ → ℕ → Type 0
  Pass from to = (x : ℕ) → from ≤ x → x < to → ok x ≡ true

  abbrev Fail : ℕ → ℕ → Type 0
  Fail from to = (x : ℕ) → from ≤ x → x < to → ok x ≡ false

  run_pass : (from to : ℕ) → Pass from to → those ok (run from to) ≡ run from to
  run_pass from to p = those_all (run from to) (run_each _ from to p)

  run_fail : (from to : ℕ) → Fail from to → those ok (run from to) ≡ []
  run_fail from to f = those_none (run from to) (run_each _ from to f)

  -- one run up to where the test fails to the end
  pub one_run : (from a b to : ℕ) → from ≤ a → a ≤ b → b ≤ to → Fail from a → Pass a b → Fail b to → those ok (run from to) ≡ run a b
  one_run from a b to h k l before in_run behind =
      rw (
        run_split from a to h (omega arith),
        run_split a b to k l,
        those_split (run from a) (run a b ++ run b to),
        those_split (run a b) (run b to),
        run_fail from a before,
        run_pass a b in_run,
        run_fail b to behind,
      )
      (append-nil (run a b))
