-- Bounds: five readings of at most m have a trimmed sum of at most 3m, and an event of at most four hours whose needed readings
-- are all at most 10,000,000 spares at most 1,500,000,000 eighteenths of a Wh.
-- Assumes nothing.
use Prim.Native.Nat.{ℕ, ◌+◌, ◌*◌, ◌/◌, ◌≤◌}
use mathlib.Core.List.{List, [], ◌∷◌}
use mathlib.Core.Logic.{⊎_elim}
use mathlib.Core.Path.{◌≡◌}
use native.Mathlib.Nat.{mul-le-mul_right, div-mul-le_self}
use native.Mathlib.Omega.{arith}
use lib.ListN.{length}
use Rattle.laws.specs.Bounds.{largest_energy}
use Rattle.book.specs.Values.{largest_reading}
use Rattle.laws.proofs.Every.{Every}
use Rattle.laws.proofs.Order.{either_order}
use Rattle.energy.specs.Spared.{spared_of}
use Rattle.energy.specs.Trimmed.{sum_of, smallest_of, largest_of, trimmed_of}
use Rattle.energy.proofs.SparedLaws.{spared_below, spared_uncapped, spared_capped}

smallest_bound : (m x : ℕ) (xs : List ℕ) → x ≤ m → smallest_of (x ∷ xs) ≤ m
unfolding smallest_of
smallest_bound m x [] h = h
smallest_bound m x (y ∷ ys) h = omega arith

-- of at least two numbers of at most m, all but one smallest and one largest sum to at most m each
pub sum_left : (m x y : ℕ) (ys : List ℕ) → Every (λ (v : ℕ). v ≤ m) (x ∷ y ∷ ys)
    → sum_of (x ∷ y ∷ ys) ≤ smallest_of (x ∷ y ∷ ys) + largest_of (x ∷ y ∷ ys) + length ys * m
unfolding sum_of smallest_of largest_of
sum_left m x y [] h = omega arith
sum_left m x y (z ∷ zs) h = omega (arith, sum_left m y z zs h.1, smallest_bound m y (z ∷ zs) h.1.0, h.0)

pub trimmed_bound : (m : ℕ) (xs : List ℕ) → length xs ≡ 5 → Every (λ (v : ℕ). v ≤ m) xs → trimmed_of xs ≤ 3 * m
unfolding trimmed_of
trimmed_bound m [] n h = absurd (omega arith)
trimmed_bound m (x ∷ []) n h = absurd (omega arith)
trimmed_bound m (x ∷ y ∷ ys) n h =
    let three : length ys ≡ 3 = omega arith in
    let most = sum_left m x y ys h in
    omega (arith, rw three at most)

-- at most 40 kWh, or 6R + 2A times 6H/W
spared_le : (h w r b a c : ℕ) → spared_of h w r b a c ≤ 720000 + (6 * r + 2 * (a * (6 * h / w)))
spared_le h w r b a c =
    ⊎_elim
    (λ t. ⊎_elim
    (λ u. omega (arith, spared_capped h w r b a c t u, mul-le-mul_right {m = b} {n = a} (6 * h / w) (omega arith)))
    (λ u. omega (arith, spared_uncapped h w r b a c u, mul-le-mul_right {m = a} {n = b} (6 * h / w) u))
    (either_order b a))
    (λ t. omega (arith, spared_below h w r b a c t))
    (either_order (720000 + (b * (6 * h / w) + 18 * c)) (6 * r + 3 * a * (6 * h / w)))

-- R and A as they are when every needed reading is at most 10,000,000; B, C and W may be any
pub spared_bound : (h w r b a c : ℕ) → h ≤ 4 → r ≤ 3 * largest_reading * h → a ≤ largest_reading * w → spared_of h w r b a c ≤ largest_energy
spared_bound h w r b a c hh hr ha =
    omega (arith, spared_le h w r b a c, mul-le-mul_right (6 * h / w) ha, div-mul-le_self (6 * h) w)
