-- The figures of the medium-power settlement.
-- Assumes nothing.
use Rattle.std.specs.Prelude.{ℕ, ◌*◌, List, [], ◌∷◌, map}
use Rattle.laws.specs.Answer.{Answer, given}
use Rattle.power.specs.Credit.{credit_of}
use Rattle.power.specs.Rates.{kilowatt}
use Rattle.power.specs.Settlement.{power_settlement, power_written}
use Rattle.power.specs.Settlement.{PowerSettlement}
use Rattle.figures.specs.EnergyFigures.{sample_book, sample_list}
use Rattle.figures.specs.Figure.{Figure, figure}

-- what a medium-power settlement answers, as numbers
abbrev pub power_numbers : PowerSettlement → Answer
power_numbers s = given (s.number ∷ s.place ∷ s.sum ∷ s.settled ∷ s.cents ∷ [])

-- the credit of one event of so many kW
abbrev pub credit_at : ℕ → ℕ
credit_at kilowatts = credit_of (kilowatts * kilowatt) 1

unfoldable pub power_figures : List Figure
power_figures =
    -- rule 11.6: the sample's event, by a reference of 2,500 W
    figure (given (0 ∷ 0 ∷ 4500 ∷ 18000 ∷ 7 ∷ [])) (given (power_written 2026 sample_book sample_list (2500 ∷ []) (7 ∷ 7 ∷ 7 ∷ 7 ∷ 7 ∷ []) 3))
    -- rule 11.9: past a bound the credit falls
    ∷ figure (given (0 ∷ 100035 ∷ 1327131 ∷ 1231200 ∷ [])) (given (map credit_at (14 ∷ 15 ∷ 199 ∷ 200 ∷ [])))
    -- rule 11.10: no notices, no totals
    ∷ figure (given (0 ∷ 0 ∷ 0 ∷ 0 ∷ 0 ∷ [])) (power_numbers (power_settlement 2026 sample_book [] [] 0 3))
    ∷ []
