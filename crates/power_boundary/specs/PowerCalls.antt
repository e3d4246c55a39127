-- The medium-power settlement on bytes: the same definitions, on the numbers that the bytes stand for.
-- Assumes nothing.
use Rattle.std.specs.Prelude.{ℕ, ◌*◌, ◌/◌, cond, List, [], ◌∷◌, eqb, length}
use Rattle.notices.specs.Notices.{count_of}
use Rattle.power.specs.Lines.{power_line_numbers, power_lines_to}
use Rattle.power.specs.Reduced.{reduced_at}
use Rattle.power.specs.Refusals.{total_numbers}
use Rattle.power.specs.Settlement.{PowerSettlement, power_settlement}
use Rattle.wire.specs.Bytes.{bytes_over}
use Rattle.wire.specs.Decoded.{decoded}
use Rattle.boundary.specs.Calls.{packed}

abbrev pub packed_power : PowerSettlement → ℕ
packed_power s = packed s.number s.place

-- an output once its lines are there (rule 9.7)
abbrev pub power_lines_over : List ℕ → List ℕ → List ℕ → List ℕ → List ℕ
power_lines_over book list references out =
    bytes_over (power_lines_to (reduced_at book list references) (count_of list)) (power_line_numbers * count_of list) out

-- rule 9.9: the totals in their order, and the second output once they are there
abbrev pub totals_in : PowerSettlement → List ℕ
totals_in s = s.sum ∷ s.settled ∷ s.cents ∷ []

abbrev pub totals_over : PowerSettlement → List ℕ → List ℕ
totals_over s totals = bytes_over (totals_in s) total_numbers totals

-- the settlement s of numbers, its lines and its totals put over the bytes of the two outputs (rules 9.7 and 9.9)
unfoldable pub power_over : PowerSettlement → List ℕ → List ℕ → List ℕ → List ℕ → List ℕ
power_over s book list references out = cond (eqb s.number 0) (power_lines_over book list references out) out

unfoldable pub power_totals : PowerSettlement → List ℕ → List ℕ
power_totals s totals = cond (eqb s.number 0) (totals_over s totals) totals

-- the settlement of what the bytes stand for; the last two numbers are how many bytes the outputs have (rules 9.1, 9.4 and 9.9)
abbrev pub power_settled : ℕ → List ℕ → List ℕ → List ℕ → ℕ → ℕ → PowerSettlement
power_settled w book list references out totals = power_settlement w (decoded book) (decoded list) (decoded references) (out / 8) (totals / 8)

unfoldable pub power_call : ℕ → List ℕ → List ℕ → List ℕ → ℕ → ℕ → ℕ
power_call w book list references out totals = packed_power (power_settled w book list references out totals)

-- and what it leaves in the output and in the totals (rules 9.7 and 9.9)
unfoldable pub power_bytes : ℕ → List ℕ → List ℕ → List ℕ → List ℕ → List ℕ → List ℕ
power_bytes w book list references out totals =
    power_over (power_settled w book list references (length out) (length totals)) (decoded book) (decoded list) (decoded references) out

unfoldable pub total_bytes : ℕ → List ℕ → List ℕ → List ℕ → List ℕ → List ℕ → List ℕ
total_bytes w book list references out totals = power_totals (power_settled w book list references (length out) (length totals)) totals
