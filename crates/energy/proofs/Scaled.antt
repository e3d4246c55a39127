-- A book whose needed readings are k times another's has k times its R, B, A and C.
-- Assumes nothing.
use Prim.Native.Nat.{ℕ, ◌*◌, ◌≤◌, ◌<◌, min, max}
use mathlib.Core.List.{List, [], ◌∷◌, ◌++◌, map}
use mathlib.Core.Logic.{⊎_elim}
use mathlib.Core.Path.{◌≡◌, sym}
use native.Mathlib.Nat.{mul-add, mul-zero, mul-sub, mul-le-mul_left, min-eq_left, min-eq_right, max-eq_left, max-eq_right}
use native.Mathlib.Omega.{arith}
use lib.ListN.{length}
use Rattle.book.proofs.PlaceLaws.{at_hours}
use Rattle.book.proofs.SumLaws.{sum_times}
use Rattle.book.specs.Places.{hour_place}
use Rattle.book.specs.Readings.{reading_at, drawn_at, sum_over}
use Rattle.laws.proofs.Every.{Every, left, right, imply}
use Rattle.laws.proofs.Order.{either_order}
use Rattle.energy.specs.Asked.{Asked, needed}
use Rattle.energy.specs.Energy.{trimmed_at, energy_of}
use Rattle.energy.specs.Spared.{spared_of}
use Rattle.energy.specs.Trimmed.{sum_of, smallest_of, largest_of, trimmed_of}

min_times : (k x y : ℕ) → min (k * x) (k * y) ≡ k * min x y
min_times k x y =
    ⊎_elim (λ (h : x < y). let le : x ≤ y = omega arith in rw (min-eq_left le, min-eq_left (mul-le-mul_left k le)))
    (λ (h : y ≤ x). rw (min-eq_right h, min-eq_right (mul-le-mul_left k h)))
    (either_order x y)

max_times : (k x y : ℕ) → max (k * x) (k * y) ≡ k * max x y
max_times k x y =
    ⊎_elim (λ (h : x < y). let le : x ≤ y = omega arith in rw (max-eq_right le, max-eq_right (mul-le-mul_left k le)))
    (λ (h : y ≤ x). rw (max-eq_left h, max-eq_left (mul-le-mul_left k h)))
    (either_order x y)

module _ (k : ℕ) where
  -- g is k times f at x
  abbrev pub Times : (ℕ → ℕ) → (ℕ → ℕ) → ℕ → Type 0
  Times f g x = g x ≡ k * f x

  module _ (f g : ℕ → ℕ) where
    all_times : (xs : List ℕ) → Every (Times f g) xs → sum_of (map g xs) ≡ k * sum_of (map f xs)
    unfolding sum_of
    all_times [] a = sym (mul-zero k)
    all_times (x ∷ xs) a = rw (a.0, all_times xs a.1) (sym (mul-add k _ _))

    smallest_times : (xs : List ℕ) → Every (Times f g) xs → smallest_of (map g xs) ≡ k * smallest_of (map f xs)
    unfolding smallest_of
    smallest_times [] a = sym (mul-zero k)
    smallest_times (x ∷ []) a = a.0
    smallest_times (x ∷ y ∷ ys) a = rw (a.0, smallest_times (y ∷ ys) a.1) (min_times k _ _)

    largest_times : (xs : List ℕ) → Every (Times f g) xs → largest_of (map g xs) ≡ k * largest_of (map f xs)
    unfolding largest_of
    largest_times [] a = sym (mul-zero k)
    largest_times (x ∷ []) a = a.0
    largest_times (x ∷ y ∷ ys) a = rw (a.0, largest_times (y ∷ ys) a.1) (max_times k _ _)

    pub trimmed_times : (xs : List ℕ) → Every (Times f g) xs → trimmed_of (map g xs) ≡ k * trimmed_of (map f xs)
    unfolding trimmed_of
    trimmed_times xs a = rw (all_times xs a, smallest_times xs a, largest_times xs a, mul-sub k, mul-sub k)

  module _ (book big : List ℕ) (q : Asked) where
    -- the hour's readings of the event day and the reference days are k times as large
    abbrev HourTimes : ℕ → Type 0
    HourTimes h = Every (λ (d : ℕ). Times (reading_at book) (reading_at big) (hour_place d h)) (q.day ∷ q.refs)

    pub energy_scaled : Every (Times (reading_at book) (reading_at big)) (needed q)
        → energy_of big q
        ≡ spared_of (length q.event) (length q.warm)
        (k * sum_over (trimmed_at book q.refs) q.event)
        (k * sum_over (trimmed_at book q.refs) q.warm)
        (k * sum_over (drawn_at book q.day) q.warm)
        (k * sum_over (drawn_at book q.day) q.event)
    unfolding energy_of needed trimmed_at
    energy_scaled a =
        rw (
          sum_times k (trimmed_at book q.refs) (trimmed_at big q.refs) q.event (right _ q.warm q.event trims),
          sum_times k (trimmed_at book q.refs) (trimmed_at big q.refs) q.warm (left _ q.warm q.event trims),
          sum_times k (drawn_at book q.day) (drawn_at big q.day) q.warm (left _ q.warm q.event own),
          sum_times k (drawn_at book q.day) (drawn_at big q.day) q.event (right _ q.warm q.event own),
        )
      where
        hours : Every HourTimes (q.warm ++ q.event)
        hours = at_hours (Times (reading_at book) (reading_at big)) (q.warm ++ q.event) (q.day ∷ q.refs) a

        own : Every (Times (drawn_at book q.day) (drawn_at big q.day)) (q.warm ++ q.event)
        own = imply HourTimes (Times (drawn_at book q.day) (drawn_at big q.day)) (λ h x. x.0) (q.warm ++ q.event) hours

        trims : Every (Times (trimmed_at book q.refs) (trimmed_at big q.refs)) (q.warm ++ q.event)
        trims =
            imply HourTimes
            (Times (trimmed_at book q.refs) (trimmed_at big q.refs))
            (λ h x. trimmed_times (λ (d : ℕ). drawn_at book d h) (λ (d : ℕ). drawn_at big d h) q.refs x.1)
            (q.warm ++ q.event)
            hours
