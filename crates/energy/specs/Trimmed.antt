-- T, rule 6.2: all but one smallest and one largest, added up.
-- Assumes nothing.
use Rattle.std.specs.Prelude.{ℕ, ◌+◌, ◌-◌, min, max, List, [], ◌∷◌}

unfoldable pub sum_of : List ℕ → ℕ
sum_of [] = 0
sum_of (x ∷ xs) = x + sum_of xs

unfoldable pub smallest_of : List ℕ → ℕ
smallest_of [] = 0
smallest_of (x ∷ []) = x
smallest_of (x ∷ y ∷ ys) = min x (smallest_of (y ∷ ys))

unfoldable pub largest_of : List ℕ → ℕ
largest_of [] = 0
largest_of (x ∷ []) = x
largest_of (x ∷ y ∷ ys) = max x (largest_of (y ∷ ys))

unfoldable pub trimmed_of : List ℕ → ℕ
trimmed_of xs = sum_of xs - smallest_of xs - largest_of xs
