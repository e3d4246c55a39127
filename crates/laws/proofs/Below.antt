-- A rule for every number of a range, from one test that antt computes over the range.
-- `all_below n f` is the test; `below` and `from` turn it into the rule at each number; `how_many` counts the numbers that pass.
-- Assumes nothing.
use Prim.Native.Nat.{ℕ, zero, suc, ◌+◌, ◌-◌, ◌≤◌, ◌<◌}
use mathlib.Core.Bool.{Bool, true, false, cond, ◌&&◌}
use mathlib.Core.Logic.{⊎_elim}
use mathlib.Core.Path.{◌≡◌, refl, subst, sym}
use native.Mathlib.Nat.{not-suc-le-zero, le_of_suc-le-suc, eq-or-lt_of_le}
use native.Mathlib.Omega.{arith}
use lib.Dec.{T}

pub and_left : (a b : Bool) → T (a && b) → T a
and_left true b t = tt
and_left false b t = t

pub and_right : (a b : Bool) → T (a && b) → T b
and_right true b t = t
and_right false b t = absurd t

-- f holds at 0, 1, .., n - 1
abbrev pub all_below : ℕ → (ℕ → Bool) → Bool
all_below zero f = true
all_below (suc n) f = f n && all_below n f

pub below : (f : ℕ → Bool) (n : ℕ) → T (all_below n f) → (k : ℕ) → k < n → T (f k)
below f zero t k h = absurd (not-suc-le-zero h)
below f (suc n) t k h =
    ⊎_elim (λ (e : k ≡ n). subst (λ (m : ℕ). T (f m)) (sym e) (and_left (f n) (all_below n f) t))
    (λ (l : k < n). below f n (and_right (f n) (all_below n f) t) k l)
    (eq-or-lt_of_le (le_of_suc-le-suc h))

-- the same from a start: lo, lo + 1, .., lo + n - 1
pub from : (f : ℕ → Bool) (lo n : ℕ) → T (all_below n (λ k. f (lo + k))) → (k : ℕ) → lo ≤ k → k < lo + n → T (f k)
from f lo n t k h l =
    let e : lo + (k - lo) ≡ k = omega arith in
    subst (λ (m : ℕ). T (f m)) e (below (λ k. f (lo + k)) n t (k - lo) (omega arith))

-- how many of 0, 1, .., n - 1 pass the test f
abbrev pub how_many : (ℕ → Bool) → ℕ → ℕ
how_many f zero = 0
how_many f (suc n) = cond (f n) (suc (how_many f n)) (how_many f n)

-- where tests say the same, as many pass one as pass the other; by the count itself, since it computes to a large term
pub as_many : (f g : ℕ → Bool) (n m : ℕ) → ((k : ℕ) → k < n → f k ≡ g k) → m ≤ how_many g n → m ≤ how_many f n
as_many f g n m e h = rw (same n e) h
  where
    same : (n : ℕ) → ((k : ℕ) → k < n → f k ≡ g k) → how_many f n ≡ how_many g n
    same zero e = refl
    same (suc n) e = rw (e n (omega arith), same n (λ k h. e k (omega arith)))
