-- Warm-up hours: a function of the winter, the day and the start of an event.
-- Assumes nothing.
use Rattle.std.specs.Prelude.{ℕ, Bool, cond, ◌&&◌, List, [], ◌∷◌, leb, ltb}
use Rattle.book.specs.Places.{run}
use Rattle.calendar.specs.Clocks.{has_hour, elapsed}
use Rattle.calendar.specs.declared.answers.Winter.{Winter}
use Rattle.notices.specs.Profiles.{credit}

-- how many elapsed hours before the start the first warm-up hour begins: five in the morning, four in the evening (rules 5.1 and 5.2)
abbrev pub longest_ahead : ℕ → ℕ
longest_ahead s = cond (ltb s credit.evening.start) 5 4

-- and the last, always (rules 5.1 and 5.2)
abbrev pub shortest_ahead : ℕ
shortest_ahead = 3

-- whether an hour is a warm-up hour of an event that starts at hour s: the day has it, and it begins so many elapsed hours before the start
unfoldable pub warms_up : Winter → ℕ → ℕ → ℕ → Bool
warms_up w day s h = has_hour w day h && leb shortest_ahead (elapsed w day h s) && leb (elapsed w day h s) (longest_ahead s)

-- those of some hours that pass a test
unfoldable pub those : (ℕ → Bool) → List ℕ → List ℕ
those ok [] = []
those ok (h ∷ hs) = cond (ok h) (h ∷ those ok hs) (those ok hs)

-- rules 5.1 and 5.2: the warm-up hours of an event that starts at hour s of a day
unfoldable pub warm_up : Winter → ℕ → ℕ → List ℕ
warm_up w day s = those (warms_up w day s) (run 0 s)
