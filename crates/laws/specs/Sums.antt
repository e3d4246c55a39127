-- Sums of numbers by index.
-- Assumes nothing.
use Rattle.std.specs.Prelude.{ℕ, zero, suc, ◌+◌}

-- the first n of them together
unfoldable pub sum_to : (ℕ → ℕ) → ℕ → ℕ
sum_to f zero = 0
sum_to f (suc n) = sum_to f n + f n

-- the n from index i on together
abbrev pub run_of : (ℕ → ℕ) → ℕ → ℕ → ℕ
run_of f i n = sum_to (λ (k : ℕ). f (i + k)) n
