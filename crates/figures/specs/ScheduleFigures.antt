-- The figures of the list check, in winter 2026.
-- Assumes nothing.
use Rattle.std.specs.Prelude.{ℕ, zero, suc, ◌+◌, ◌*◌, List, [], ◌∷◌, ◌++◌}
use Rattle.boundary.specs.Calls.{check_call}
use Rattle.laws.specs.Answer.{Answer, given}
use Rattle.laws.specs.Table.{accepted, refusal_at}
use Rattle.schedule.specs.ListCheck.{check_answer}
use Rattle.wire.specs.Lent.{lent_bytes}
use Rattle.figures.specs.Figure.{Figure, figure}

-- a list under a profile
abbrev pub checked : ℕ → List ℕ → Answer
checked profile list = check_answer 2026 profile list

-- n mornings of four hours, on day d and the days after it
unfoldable pub mornings : ℕ → ℕ → List ℕ
mornings d zero = []
mornings d (suc n) = d ∷ 6 ∷ 10 ∷ mornings (suc d) n

-- 25 mornings around Christmas, 100 hours
unfoldable pub hundred_hours : List ℕ
hundred_hours = mornings 30 23 ++ mornings 56 2

unfoldable pub schedule_figures : List Figure
schedule_figures =
    -- profile 1, the hours by rules 4.12, 4.27 and 4.28
    figure accepted (checked 1 (38 ∷ 6 ∷ 10 ∷ []))
    ∷ figure (refusal_at 27 0) (checked 1 (38 ∷ 6 ∷ 11 ∷ []))
    ∷ figure (refusal_at 27 0) (checked 1 (38 ∷ 9 ∷ 17 ∷ []))
    ∷ figure (refusal_at 13 0) (checked 1 (38 ∷ 9 ∷ 6 ∷ []))
    ∷ figure (refusal_at 26 0) (checked 1 (38 ∷ 10 ∷ 16 ∷ []))
    -- and an end past 24, by the hours that it names
    ∷ figure (refusal_at 26 0) (checked 1 (38 ∷ 20 ∷ 30 ∷ []))
    ∷ figure (refusal_at 27 0) (checked 1 (38 ∷ 19 ∷ 30 ∷ []))
    ∷ figure (refusal_at 13 0) (checked 1 (38 ∷ 24 ∷ 24 ∷ []))
    ∷ figure (refusal_at 26 0) (checked 1 (38 ∷ 24 ∷ 25 ∷ []))
    ∷ figure (refusal_at 27 0) (checked 1 (38 ∷ 0 ∷ 4294967295 ∷ []))
    -- two notices, by rules 4.14 and 4.15
    ∷ figure (refusal_at 15 1) (checked 1 (38 ∷ 6 ∷ 10 ∷ 38 ∷ 6 ∷ 10 ∷ []))
    ∷ figure (refusal_at 16 1) (checked 1 (38 ∷ 6 ∷ 7 ∷ 38 ∷ 8 ∷ 9 ∷ []))
    -- profile 2, by rules 4.13 and 4.27
    ∷ figure (refusal_at 14 0) (checked 2 (38 ∷ 6 ∷ 8 ∷ []))
    ∷ figure (refusal_at 26 0) (checked 2 (38 ∷ 9 ∷ 10 ∷ []))
    -- no notices, then as many hours as a winter has, then one more: rules 4.1 and 4.16
    ∷ figure accepted (checked 1 [])
    ∷ figure accepted (checked 1 hundred_hours)
    ∷ figure (refusal_at 18 25) (checked 1 (hundred_hours ++ (58 ∷ 6 ∷ 7 ∷ [])))
    -- from C, by the bytes of a list: one that stands, and one with a notice twice, 15 at index 1
    ∷ figure (given (0 ∷ [])) (given (check_call 2026 1 (lent_bytes (38 ∷ 6 ∷ 9 ∷ [])) ∷ []))
    ∷ figure (given ((65536 * 15 + 1) ∷ [])) (given (check_call 2026 1 (lent_bytes (38 ∷ 6 ∷ 9 ∷ 38 ∷ 6 ∷ 9 ∷ [])) ∷ []))
    ∷ []
