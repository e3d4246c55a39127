-- The numbers of a line as they stand in an output.
-- Assumes nothing.
use Rattle.std.specs.Prelude.{ℕ, ◌+◌, ◌*◌, List, [], ◌∷◌, get_or}
use Rattle.laws.specs.Rows.{rows_to}
use Rattle.energy.specs.Event.{Event}
use Rattle.settlement.specs.Lines.{line_numbers}

-- which of its three numbers is which
abbrev pub code_in : List ℕ → ℕ → ℕ
code_in out k = get_or out (line_numbers * k) 0

abbrev pub place_in : List ℕ → ℕ → ℕ
place_in out k = get_or out (line_numbers * k + 1) 0

abbrev pub energy_in : List ℕ → ℕ → ℕ
energy_in out k = get_or out (line_numbers * k + 2) 0

-- the event that a line tells
abbrev pub event_told : List ℕ → ℕ → Event
event_told out k = record { code = code_in out k; place = place_in out k; energy = energy_in out k }

-- the energies of the first n lines, as they are priced
abbrev pub energies_in : List ℕ → ℕ → List ℕ
energies_in out = rows_to (λ (k : ℕ). energy_in out k ∷ [])
