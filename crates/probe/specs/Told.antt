-- An answer as C is told it, in one number: the refusal number, 0 if there is none, and values.
-- Assumes nothing.
use Rattle.std.specs.Prelude.{ℕ, ◌+◌, ◌*◌, cond, List, [], ◌∷◌, get_or, Err}
use Rattle.book.specs.Part.{day_readings}
use Rattle.calendar.specs.WinterOf.{winter_of}
use Rattle.calendar.specs.declared.answers.Winter.{Winter}
use Rattle.dates.specs.Winters.{no_winter}
use Rattle.energy.specs.Line.{EventAnswer, line_paper}
use Rattle.laws.specs.Answer.{Answer, refusal, refuse}
use Rattle.refusals.specs.declared.rule.Rule.TheVariants.{NoWinter}

-- the first two values, each 2 ^ 16 times as high as the next
abbrev pub packed : List ℕ → ℕ
packed [] = 0
packed (v ∷ []) = v
packed (v ∷ w ∷ vs) = v * 65536 + w

abbrev pub told : Answer → ℕ
told a = a.number * 4294967296 + packed a.values

-- of a day's kind, three bits: in the winter period, a weekend day, excluded
abbrev pub kind_told : Answer → ℕ
kind_told a = a.number * 4294967296 + (4 * get_or a.values 0 0 + 2 * get_or a.values 1 0 + get_or a.values 2 0)

-- of the answer on an event, its code and place
abbrev pub fault_told : EventAnswer → ℕ
fault_told a = a.number * 4294967296 + (a.event.code * 65536 + a.event.place)

-- and its energy
abbrev pub energy_told : EventAnswer → ℕ
energy_told a = a.event.energy

-- what is asked of a winter's facts, asked of a year
unfoldable pub of_year : ℕ → (Winter → Answer) → Answer
of_year y f = refuse (no_winter y) (refusal 1) (f (winter_of y))

-- the same of an event
unfoldable pub event_of_year : ℕ → (Winter → EventAnswer) → EventAnswer
event_of_year y f = cond (no_winter y) (line_paper (Err NoWinter)) (f (winter_of y))

unfoldable pub part_of : ℕ → List ℕ → ℕ → List ℕ
part_of y book d = cond (no_winter y) [] (day_readings (winter_of y) book d)
