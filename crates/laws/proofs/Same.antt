-- Two answers are the same, as a test that antt computes.
-- Assumes nothing.
use Prim.Native.Nat.{ℕ}
use mathlib.Core.Bool.{Bool, true, false, ◌&&◌}
use mathlib.Core.List.{List, [], ◌∷◌}
use mathlib.Core.Path.{◌≡◌, refl}
use lib.Dec.{T, eqb, eqb→eq}
use Rattle.laws.specs.Answer.{Answer}
use Rattle.laws.proofs.Below.{and_left, and_right}

abbrev same_values : List ℕ → List ℕ → Bool
same_values [] [] = true
same_values [] (y ∷ ys) = false
same_values (x ∷ xs) [] = false
same_values (x ∷ xs) (y ∷ ys) = eqb x y && same_values xs ys

abbrev pub same : Answer → Answer → Bool
same a b = eqb a.number b.number && same_values a.values b.values

values_true : (xs ys : List ℕ) → T (same_values xs ys) → xs ≡ ys
values_true [] [] t = refl
values_true [] (y ∷ ys) t = absurd t
values_true (x ∷ xs) [] t = absurd t
values_true (x ∷ xs) (y ∷ ys) t =
    let e : x ≡ y = eqb→eq x y (and_left (eqb x y) (same_values xs ys) t) in
    let es : xs ≡ ys = values_true xs ys (and_right (eqb x y) (same_values xs ys) t) in
    cc

made : (m n : ℕ) (us vs : List ℕ) → m ≡ n → us ≡ vs → ◌≡◌ {A = Answer} (record { number = m; values = us }) (record { number = n; values = vs })
made m n us vs e es = rw (e, es)

pub same_true : (a b : Answer) → T (same a b) → a ≡ b
same_true a b t =
    let n = eqb a.number b.number in
    let v = same_values a.values b.values in
    made a.number b.number a.values b.values (eqb→eq a.number b.number (and_left n v t))
    (values_true a.values b.values (and_right n v t))
