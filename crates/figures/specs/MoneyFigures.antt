-- The figures of the settlement.
-- Assumes nothing.
use Rattle.std.specs.Prelude.{ℕ, List, [], ◌∷◌, map}
use Rattle.laws.specs.Answer.{Answer, given}
use Rattle.money.specs.Cents.{cents_at}
use Rattle.credit.specs.Settlement.{settlement, written}
use Rattle.money.specs.Worth.{rounded_worth}
use Rattle.credit.specs.Settlement.{Settlement}
use Rattle.figures.specs.EnergyFigures.{sample_book, sample_list}
use Rattle.figures.specs.Figure.{Figure, figure}

-- what a settlement answers, as numbers
abbrev pub numbers_of : Settlement → Answer
numbers_of s = given (s.number ∷ s.place ∷ s.energy ∷ s.cents ∷ [])

unfoldable pub money_figures : List Figure
money_figures =
    -- rule 7.4: three lines worth half a cent each
    figure (given (1 ∷ 0 ∷ 1 ∷ [])) (given (map (cents_at 50000 (λ (k : ℕ). 180)) (0 ∷ 1 ∷ 2 ∷ [])))
    -- rule 7.3: the sample bill
    ∷ figure (given (357 ∷ [])) (given (rounded_worth 50000 128520 ∷ []))
    -- rule 7.6: the sample's line, and a number behind it that stays
    ∷ figure (given (0 ∷ 0 ∷ 81000 ∷ 234 ∷ 7 ∷ [])) (given (written 2026 sample_book 51967 sample_list (7 ∷ 7 ∷ 7 ∷ 7 ∷ 7 ∷ [])))
    -- and what its settlement answers: it is accepted, with these totals
    ∷ figure (given (0 ∷ 0 ∷ 81000 ∷ 234 ∷ [])) (numbers_of (settlement 2026 sample_book 51967 sample_list 4))
    -- rule 7.7: no notices, no totals
    ∷ figure (given (0 ∷ 0 ∷ 0 ∷ 0 ∷ [])) (numbers_of (settlement 2026 sample_book 51967 [] 0))
    ∷ []
