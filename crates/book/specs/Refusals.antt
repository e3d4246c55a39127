-- The refusals with which every call on a book begins.
-- Assumes nothing.
use Rattle.std.specs.Prelude.{ℕ, Bool, List, [], ◌∷◌}
use Rattle.dates.specs.Winters.{no_winter, days}
use Rattle.laws.specs.Table.{Row, row}
use Rattle.book.specs.Length.{wrong_length}

-- rule 4.4: no book of that winter
unfoldable pub bad_book : ℕ → ℕ → Bool
bad_book w readings = wrong_length (days w) readings

-- rule 4.32: by the winter, and by how many numbers the book has
unfoldable pub book_rows : ℕ → ℕ → List Row
book_rows w readings = row 1 0 (no_winter w) ∷ row 2 0 (bad_book w readings) ∷ []
