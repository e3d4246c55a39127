-- The lines of the energies: three numbers a notice.
-- Assumes nothing.
use Rattle.std.specs.Prelude.{ℕ, List, [], ◌∷◌}
use Rattle.laws.specs.Rows.{rows_to, rows_over}
use Rattle.energy.specs.Event.{Event}

abbrev pub line_numbers : ℕ
line_numbers = 3

-- the line of the notice at index k
unfoldable pub line_at : (ℕ → Event) → ℕ → List ℕ
line_at events k = (events k).code ∷ (events k).place ∷ (events k).energy ∷ []

-- the first k lines, and an output with n lines at its front and the rest as it was
abbrev pub lines_to : (ℕ → Event) → ℕ → List ℕ
lines_to events = rows_to (line_at events)

abbrev pub lines_in : (ℕ → Event) → ℕ → List ℕ → List ℕ
lines_in events n out = rows_over line_numbers (line_at events) n out
