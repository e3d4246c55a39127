-- Laws of T: the smallest, the largest and the sum of a list as an iterator finds them; the two dropped values are within the sum, a sum is at
-- most its largest value as often as there are values, and T of five readings is T of their hour.
-- Assumes nothing.
use Prim.Native.Nat.{ℕ, ◌+◌, ◌-◌, ◌*◌, ◌^◌, ◌≤◌, ◌<◌, min, max}
use mathlib.Core.List.{List, [], ◌∷◌, map}
use mathlib.Core.Path.{◌≡◌, refl, ap, ◌∙◌}
use native.Mathlib.Omega.{arith}
use lib.ListN.{length, get_or}
use Rattle.std.proofs.Common.{sum, unwrap_or}
use Rattle.std.proofs.lemmas.List.Sums.{sum_by-cons}
use Rattle.std.specs.List.{fold, reduce}
use Rattle.book.specs.Readings.{reading_at}
use Rattle.energy.specs.Parts.{trimmed_in}
use Rattle.energy.specs.Ready.{IsTrimmed}
use Rattle.energy.specs.Trimmed.{sum_of, smallest_of, largest_of, trimmed_of}

-- as the iterator finds them
fold_smallest : (x : ℕ) (xs : List ℕ) → fold min x xs ≡ smallest_of (x ∷ xs)
unfolding smallest_of
fold_smallest x [] = refl
fold_smallest x (y ∷ ys) = fold_smallest (min x y) ys ∙ joined ys
  where
    joined : (zs : List ℕ) → smallest_of (min x y ∷ zs) ≡ min x (smallest_of (y ∷ zs))
    joined [] = refl
    joined (z ∷ zs) = omega arith

pub smallest_is : (xs : List ℕ) → unwrap_or (reduce min xs) 0 ≡ smallest_of xs
unfolding smallest_of
smallest_is [] = refl
smallest_is (x ∷ xs) = fold_smallest x xs

fold_largest : (x : ℕ) (xs : List ℕ) → fold max x xs ≡ largest_of (x ∷ xs)
unfolding largest_of
fold_largest x [] = refl
fold_largest x (y ∷ ys) = fold_largest (max x y) ys ∙ joined ys
  where
    joined : (zs : List ℕ) → largest_of (max x y ∷ zs) ≡ max x (largest_of (y ∷ zs))
    joined [] = refl
    joined (z ∷ zs) = omega arith

pub largest_is : (xs : List ℕ) → unwrap_or (reduce max xs) 0 ≡ largest_of xs
unfolding largest_of
largest_is [] = refl
largest_is (x ∷ xs) = fold_largest x xs

pub sum_is : (xs : List ℕ) → sum xs ≡ sum_of xs
unfolding sum_of
sum_is [] = refl
sum_is (x ∷ xs) = rw (sum_by-cons (λ (y : ℕ). y) x xs) (ap (λ (n : ℕ). x + n) (sum_is xs))

-- the largest of one number more
pub largest_more : (x : ℕ) (xs : List ℕ) → max x (largest_of xs) ≡ largest_of (x ∷ xs)
unfolding largest_of
largest_more x [] = omega arith
largest_more x (y ∷ ys) = refl

smallest_le : (xs : List ℕ) → smallest_of xs ≤ sum_of xs
unfolding smallest_of sum_of
smallest_le [] = omega arith
smallest_le (x ∷ []) = omega arith
smallest_le (x ∷ y ∷ ys) = omega (arith, smallest_le (y ∷ ys))

largest_le : (xs : List ℕ) → largest_of xs ≤ sum_of xs
unfolding largest_of sum_of
largest_le [] = omega arith
largest_le (x ∷ []) = omega arith
largest_le (x ∷ y ∷ ys) = omega (arith, largest_le (y ∷ ys))

-- of at least two numbers, one smallest and one largest are together within the sum
dropped_le : (xs : List ℕ) → 2 ≤ length xs → smallest_of xs + largest_of xs ≤ sum_of xs
unfolding smallest_of largest_of sum_of
dropped_le [] n = absurd (omega arith)
dropped_le (x ∷ []) n = absurd (omega arith)
dropped_le (x ∷ y ∷ ys) n = omega (arith, smallest_le (y ∷ ys), largest_le (y ∷ ys))

sum_le : (m : ℕ) (xs : List ℕ) → largest_of xs ≤ m → sum_of xs ≤ length xs * m
unfolding largest_of sum_of
sum_le m [] h = omega arith
sum_le m (x ∷ []) h = omega arith
sum_le m (x ∷ y ∷ ys) h = omega (arith, sum_le m (y ∷ ys) (omega arith))

-- five numbers, with their sum, a smallest and a largest
module _ (v : List ℕ) (n : length v ≡ 5) {sum low high : ℕ} (s : sum ≡ sum_of v) (l : low ≡ smallest_of v) (h : high ≡ largest_of v) where
  pub dropped_within : low + high ≤ sum
  dropped_within = omega (arith, dropped_le v (omega arith))

  -- of five numbers, each below 2^32
  pub is_trimmed : high < 2 ^ 32 → IsTrimmed v (sum - low - high)
  unfolding trimmed_of
  is_trimmed b = record { is = rw (s, l, h); small = omega (arith, sum_le (2 ^ 32) v (omega arith)) }

-- a list of five is its five elements
abbrev pub elements : {X : Type 0} → X → List X → List X
elements d v = get_or v 0 d ∷ get_or v 1 d ∷ get_or v 2 d ∷ get_or v 3 d ∷ get_or v 4 d ∷ []

pub five : {X : Type 0} (d : X) (v : List X) → length v ≡ 5 → elements d v ≡ v
five d [] n = absurd (omega arith)
five d (a ∷ []) n = absurd (omega arith)
five d (a ∷ b ∷ []) n = absurd (omega arith)
five d (a ∷ b ∷ c ∷ []) n = absurd (omega arith)
five d (a ∷ b ∷ c ∷ e ∷ []) n = absurd (omega arith)
five d (a ∷ b ∷ c ∷ e ∷ f ∷ []) n = refl
five d (a ∷ b ∷ c ∷ e ∷ f ∷ g ∷ gs) n = absurd (omega arith)

-- T of an hour, from its five readings
pub trimmed_hour : (parts : List (List ℕ)) (h : ℕ) {five : List ℕ} {t : ℕ} → five ≡ map (λ (p : List ℕ). reading_at p h) parts → IsTrimmed five t
    → t ≡ trimmed_in parts h
unfolding trimmed_in
trimmed_hour parts h e t = rw (← e) t.is
