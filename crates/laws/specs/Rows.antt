-- Rows of a list by index, one after another, and an output that a loop fills row by row.
-- Assumes nothing.
use Rattle.std.specs.Prelude.{ℕ, zero, suc, ◌*◌, List, [], ◌∷◌, ◌++◌, drop}

-- the first k rows, one after another
unfoldable pub rows_to : {A : Type 0} → (ℕ → List A) → ℕ → List A
rows_to row_at zero = []
rows_to row_at (suc k) = rows_to row_at k ++ row_at k

-- an output with k rows of w numbers at its front, the rest as it came
abbrev pub rows_over : ℕ → (ℕ → List ℕ) → ℕ → List ℕ → List ℕ
rows_over w row_at k out = rows_to row_at k ++ drop (w * k) out

-- the same of rows of one number: an output with k numbers at its front, the rest as it came
abbrev pub numbers_over : (ℕ → ℕ) → ℕ → List ℕ → List ℕ
numbers_over number_at k out = rows_to (λ (i : ℕ). number_at i ∷ []) k ++ drop k out
