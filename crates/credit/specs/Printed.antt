-- The numbers of a line as they stand in an output.
-- Assumes nothing.
use Rattle.std.specs.Prelude.{ℕ, ◌+◌, ◌*◌, List, [], ◌∷◌, get_or}
use Rattle.energy.specs.Event.{Event}
use Rattle.credit.specs.Lines.{line_numbers}

-- rule 7.5: which of its four numbers is which
abbrev pub code_in : List ℕ → ℕ → ℕ
code_in out k = get_or out (line_numbers * k) 0

abbrev pub place_in : List ℕ → ℕ → ℕ
place_in out k = get_or out (line_numbers * k + 1) 0

abbrev pub energy_in : List ℕ → ℕ → ℕ
energy_in out k = get_or out (line_numbers * k + 2) 0

abbrev pub cents_in : List ℕ → ℕ → ℕ
cents_in out k = get_or out (line_numbers * k + 3) 0

-- the event that a line tells
abbrev pub event_told : List ℕ → ℕ → Event
event_told out k = record { code = code_in out k; place = place_in out k; energy = energy_in out k }

-- all the numbers of a line
abbrev pub line_in : List ℕ → ℕ → List ℕ
line_in out k = code_in out k ∷ place_in out k ∷ energy_in out k ∷ cents_in out k ∷ []
