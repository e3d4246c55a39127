-- Laws of sums by index: none, one more, a bound, that they grow, numbers that are the same, and a run between two sums.
-- Assumes nothing.
use Prim.Native.Nat.{ℕ, zero, suc, ◌+◌, ◌*◌, ◌≤◌, ◌<◌}
use mathlib.Core.Logic.{⊎_elim}
use mathlib.Core.Path.{◌≡◌, refl, sym}
use native.Mathlib.Nat.{add-zero, add-suc, zero-add, suc-mul, eq-or-lt_of_le}
use native.Mathlib.Omega.{arith}
use Rattle.laws.specs.Sums.{sum_to, run_of}

module _ (f : ℕ → ℕ) where
  pub sum_none : sum_to f 0 ≡ 0
  unfolding sum_to
  sum_none = refl

  pub sum_next : (n : ℕ) → sum_to f (suc n) ≡ sum_to f n + f n
  unfolding sum_to
  sum_next n = refl

  pub sum_bound : (m : ℕ) → ((k : ℕ) → f k ≤ m) → (n : ℕ) → sum_to f n ≤ n * m
  unfolding sum_to
  sum_bound m h zero = omega arith
  sum_bound m h (suc n) = rw (suc-mul n m) (omega (arith, sum_bound m h n, h n))

  -- the same where only the terms that are added are bounded
  pub sum_bounded : (m n : ℕ) → ((k : ℕ) → k < n → f k ≤ m) → sum_to f n ≤ n * m
  unfolding sum_to
  sum_bounded m zero h = omega arith
  sum_bounded m (suc n) h = rw (suc-mul n m) (omega (arith, sum_bounded m n (λ k b. h k (omega arith)), h n (omega arith)))

  -- sums only grow
  pub sum_grows : (j i : ℕ) → i ≤ j → sum_to f i ≤ sum_to f j
  unfolding sum_to
  sum_grows zero i h = let e : i ≡ 0 = omega arith in rw e (omega arith)
  sum_grows (suc j) i h =
      ⊎_elim (λ (e : i ≡ suc j). rw e (omega arith)) (λ (e : i < suc j). omega (arith, sum_grows j i (omega arith))) (eq-or-lt_of_le h)

-- what is the same at each index has the same sum
pub sum_same : (f g : ℕ → ℕ) (n : ℕ) → ((k : ℕ) → k < n → f k ≡ g k) → sum_to f n ≡ sum_to g n
unfolding sum_to
sum_same f g zero e = refl
sum_same f g (suc n) e = rw (sum_same f g n (λ k h. e k (omega arith)), e n (omega arith))

pub run_same : (f g : ℕ → ℕ) (i n : ℕ) → ((k : ℕ) → k < i + n → f k ≡ g k) → run_of f i n ≡ run_of g i n
run_same f g i n e = sum_same (λ (k : ℕ). f (i + k)) (λ (k : ℕ). g (i + k)) n (λ k h. e (i + k) (omega arith))

-- a total that each index carries on from what it was before
module _ (f total : ℕ → ℕ) (next : (k : ℕ) → total k + f k ≡ total (suc k)) where
  pub run_carries : (i n : ℕ) → total i + run_of f i n ≡ total (i + n)
  unfolding sum_to
  run_carries i zero = rw (add-zero i, add-zero (total i))
  run_carries i (suc n) = rw (add-suc i n) (omega (arith, run_carries i n, next (i + n)))

-- the numbers of a run carry the sum before it on
pub sum_run : (f : ℕ → ℕ) (i n : ℕ) → sum_to f i + run_of f i n ≡ sum_to f (i + n)
sum_run f = run_carries f (sum_to f) (λ k. sym (sum_next f k))

-- a run from the first index on is a sum
pub run_first : (f : ℕ → ℕ) (n : ℕ) → run_of f 0 n ≡ sum_to f n
run_first f n = sum_same (λ (k : ℕ). f (0 + k)) f n (λ k h. rw (zero-add k))
