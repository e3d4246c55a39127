-- The calendar's figures.
-- Assumes nothing.
use Rattle.std.specs.Prelude.{ℕ, zero, suc, Bool, not, cond, ◌&&◌, List, [], ◌∷◌}
use Rattle.calendar.specs.Answers.{easter_sunday, forward_day, back_day}
use Rattle.calendar.specs.Excluded.{among, fixed_days, excluded}
use Rattle.calendar.specs.WinterOf.{winter_of}
use Rattle.dates.specs.Winters.{days}
use Rattle.laws.specs.Answer.{given}
use Rattle.figures.specs.Figure.{Figure, figure}

-- d and the days after it, n in all, that winter y excludes besides the fixed days
unfoldable pub also_from : ℕ → ℕ → ℕ → List ℕ
also_from y d zero = []
also_from y d (suc n) = besides (excluded (winter_of y) d && not (among d fixed_days)) d (also_from y (suc d) n)
  where
    besides : Bool → ℕ → List ℕ → List ℕ
    besides b d ds = cond b (d ∷ ds) ds

unfoldable pub also_excluded : ℕ → List ℕ
also_excluded y = also_from y 0 (days y)

unfoldable pub calendar_figures : List Figure
calendar_figures =
    -- rule 1.13: Easter in three years
    figure (given (3 ∷ 31 ∷ [])) (easter_sunday 2024)
    ∷ figure (given (3 ∷ 28 ∷ [])) (easter_sunday 2027)
    ∷ figure (given (4 ∷ 16 ∷ [])) (easter_sunday 2028)
    -- rule 1.12: what three winters exclude besides the six
    ∷ figure (given (145 ∷ 148 ∷ [])) (given (also_excluded 2026))
    ∷ figure (given (149 ∷ [])) (given (also_excluded 2023))
    ∷ figure (given []) (given (also_excluded 2027))
    -- rule 1.19: the Sundays on which the clocks change
    ∷ figure (given (0 ∷ [])) (back_day (winter_of 2026))
    ∷ figure (given (133 ∷ [])) (forward_day (winter_of 2026))
    ∷ []
