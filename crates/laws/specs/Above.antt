-- Numbers in a row that are refused where they are too large: a row of the table for each index, which is its place.
-- Assumes nothing.
use Rattle.std.specs.Prelude.{ℕ, List, [], ◌∷◌, ltb, length, get_or}
use Rattle.laws.specs.Rows.{rows_to}
use Rattle.laws.specs.Table.{Row, row}

-- the refusal's number, the largest that is taken, the numbers, and an index of them
unfoldable pub above_rows : ℕ → ℕ → List ℕ → ℕ → List Row
above_rows number most xs k = row number k (ltb most (get_or xs k 0)) ∷ []

abbrev pub above_table : ℕ → ℕ → List ℕ → List Row
above_table number most xs = rows_to (above_rows number most xs) (length xs)
