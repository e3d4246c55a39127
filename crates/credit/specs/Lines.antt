-- The lines of a settlement: four numbers a notice.
-- Assumes nothing.
use Rattle.std.specs.Prelude.{ℕ, List, [], ◌∷◌}
use Rattle.laws.specs.Rows.{rows_to}
use Rattle.money.specs.Cents.{cents_at}
use Rattle.settlement.specs.Events.{energy_at}
use Rattle.energy.specs.Event.{Event}

abbrev pub line_numbers : ℕ
line_numbers = 4

-- rule 7.5: the line of the notice at index k
unfoldable pub line_at : ℕ → (ℕ → Event) → ℕ → List ℕ
line_at p events k = (events k).code ∷ (events k).place ∷ (events k).energy ∷ cents_at p (energy_at events) k ∷ []

-- the first k lines (rule 7.6)
abbrev pub lines_to : ℕ → (ℕ → Event) → ℕ → List ℕ
lines_to p events = rows_to (line_at p events)
