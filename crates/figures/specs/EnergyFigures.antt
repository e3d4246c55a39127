-- The figures of the spared energy, in winter 2026.
-- Assumes nothing.
use Rattle.std.specs.Prelude.{ℕ, ◌*◌, List, [], ◌∷◌, ◌++◌, replicate}
use Rattle.book.specs.Values.{missing_mark}
use Rattle.calendar.specs.WinterOf.{winter_of}
use Rattle.references.specs.ReferenceDays.{free_in, reference_days}
use Rattle.references.specs.WarmUp.{warm_up}
use Rattle.energy.specs.Line.{event_answer}
use Rattle.energy.specs.Spared.{spared_of}
use Rattle.event_hours.specs.Days.{masks_of}
use Rattle.laws.specs.Answer.{Answer, given}
use Rattle.figures.specs.Figure.{Figure, figure}

-- the warm-up hours of an event that starts at hour s of day 133, the Sunday the clocks go forward
abbrev pub warm_on_sunday : ℕ → Answer
warm_on_sunday s = given (warm_up (winter_of 2026) 133 s)

-- the reference days of an event that starts at hour s of a day, with the events of a list
abbrev pub references : List ℕ → ℕ → ℕ → Answer
references list day s = given (reference_days (winter_of 2026) (free_in (masks_of list)) day s)

-- H = W = 3, R = 126,000, B = 9,000, A = 12,000, and C
abbrev pub spared_with : ℕ → Answer
spared_with c = given (spared_of 3 3 126000 9000 12000 c ∷ [])

-- n missing readings
abbrev pub missing : ℕ → List ℕ
missing n = replicate n missing_mark

-- the sample's readings of a day: two lines `read=`, three readings from hour 1 and three from hour 6; all other hours are missing (rule 8.9)
unfoldable pub sample_day : ℕ → ℕ → List ℕ
sample_day a b = missing 1 ++ (replicate 3 a ++ (missing 2 ++ (replicate 3 b ++ missing 15)))

-- the sample's days are 31 to 33 and 36 to 38, of 151
unfoldable pub sample_book : List ℕ
sample_book =
    missing (24 * 31) ++ (sample_day 2000 2000 ++ (sample_day 2100 2100 ++ (sample_day 2200 2200 ++ (missing (24 * 2)
    ++ (sample_day 2300 2300 ++ (sample_day 2400 2400 ++ (sample_day 2500 1000 ++ missing (24 * 112))))))))

-- `event=38,6,9`
unfoldable pub sample_list : List ℕ
sample_list = 38 ∷ 6 ∷ 9 ∷ []

-- the number that the call on one event gives for these hours of day 38, with the sample's book
abbrev pub called_with : ℕ → ℕ → ℕ
called_with s e = (event_answer (winter_of 2026) sample_book (masks_of []) (record { day = 38; start = s; end = e })).number

unfoldable pub energy_figures : List Figure
energy_figures =
    -- rule 4.24: 9-6, 20-30 and 19-30
    figure (given (13 ∷ 26 ∷ 27 ∷ [])) (given (called_with 9 6 ∷ called_with 20 30 ∷ called_with 19 30 ∷ []))
    -- rules 5.1 and 5.2: the Sunday the clocks go forward, by the start
    ∷ figure (given (0 ∷ 1 ∷ 3 ∷ [])) (warm_on_sunday 6)
    ∷ figure (given (1 ∷ 3 ∷ 4 ∷ [])) (warm_on_sunday 7)
    ∷ figure (given (3 ∷ 4 ∷ 5 ∷ [])) (warm_on_sunday 8)
    ∷ figure (given (4 ∷ 5 ∷ 6 ∷ [])) (warm_on_sunday 9)
    ∷ figure (given (12 ∷ 13 ∷ [])) (warm_on_sunday 16)
    -- rule 5.6: an event on day 34
    ∷ figure (given (28 ∷ 27 ∷ 21 ∷ 20 ∷ 14 ∷ [])) (references (34 ∷ 6 ∷ 9 ∷ []) 34 6)
    -- rule 5.6: one on day 57, by itself and with another on day 51
    ∷ figure (given (52 ∷ 51 ∷ 50 ∷ 47 ∷ 46 ∷ [])) (references (57 ∷ 6 ∷ 9 ∷ []) 57 6)
    ∷ figure (given (52 ∷ 50 ∷ 47 ∷ 46 ∷ 45 ∷ [])) (references (51 ∷ 6 ∷ 9 ∷ 57 ∷ 6 ∷ 9 ∷ []) 57 6)
    -- rule 5.6: one on day 139, after that Sunday, by its start
    ∷ figure (given (132 ∷ 126 ∷ 125 ∷ 119 ∷ 118 ∷ [])) (references (139 ∷ 6 ∷ 7 ∷ []) 139 6)
    ∷ figure (given (132 ∷ 126 ∷ 125 ∷ 119 ∷ 118 ∷ [])) (references (139 ∷ 7 ∷ 8 ∷ []) 139 7)
    ∷ figure (given (133 ∷ 132 ∷ 126 ∷ 125 ∷ 119 ∷ [])) (references (139 ∷ 8 ∷ 9 ∷ []) 139 8)
    ∷ figure (given (133 ∷ 132 ∷ 126 ∷ 125 ∷ 119 ∷ [])) (references (139 ∷ 16 ∷ 17 ∷ []) 139 16)
    -- rules 6.8 and 6.9: at the limit, and one Wh past it
    ∷ figure (given (720000 ∷ [])) (spared_with 11000)
    ∷ figure (given (666018 ∷ [])) (spared_with 10999)
    ∷ []
