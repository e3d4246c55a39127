-- The lines of a medium-power settlement, four numbers a notice, and the sums over them.
-- Assumes nothing.
use Rattle.std.specs.Prelude.{ℕ, List, [], ◌∷◌, eqb}
use Rattle.energy.specs.Event.{Event}
use Rattle.laws.specs.Answer.{bit}
use Rattle.laws.specs.Rows.{rows_to, rows_over}
use Rattle.laws.specs.Sums.{sum_to}
use Rattle.power.specs.Reduced.{Reduced}
use Rattle.power.specs.declared.lines.Sums.{Sums}

abbrev pub power_line_numbers : ℕ
power_line_numbers = 4

-- rule 11.6: the numbers of a line
abbrev pub power_line : Reduced → List ℕ
power_line r = r.event.code ∷ r.event.place ∷ r.event.energy ∷ r.reduction ∷ []

unfoldable pub power_line_at : (ℕ → Reduced) → ℕ → List ℕ
power_line_at events k = power_line (events k)

-- the first k lines, and an output with n lines at its front and the rest as it was (rule 11.6)
abbrev pub power_lines_to : (ℕ → Reduced) → ℕ → List ℕ
power_lines_to events = rows_to (power_line_at events)

abbrev pub power_lines_in : (ℕ → Reduced) → ℕ → List ℕ → List ℕ
power_lines_in events n out = rows_over power_line_numbers (power_line_at events) n out

-- rule 11.7: what is added up, the reductions and the settled events: 1 for one that is settled, 0 for one that is not
abbrev pub reduction_at : (ℕ → Reduced) → ℕ → ℕ
reduction_at events k = (events k).reduction

abbrev pub settled_one : Event → ℕ
settled_one e = bit (eqb e.code 0)

abbrev pub settled_at : (ℕ → Reduced) → ℕ → ℕ
settled_at events k = settled_one (events k).event

abbrev pub sums_of : (ℕ → Reduced) → ℕ → Sums
sums_of events n = record { sum = sum_to (reduction_at events) n; settled = sum_to (settled_at events) n }
