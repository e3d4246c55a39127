-- The days of a winter's book, and those of the winter period. A question on a day goes by the winter's facts, and anything may be handed
-- over as these.
-- Assumes nothing.
use Rattle.std.specs.Prelude.{ℕ, ◌-◌, Bool, ◌&&◌, ◌||◌, leb, ltb}
use Rattle.calendar.specs.declared.answers.Winter.{Winter}

-- 1: no winter has so many days (rule 1.18)
unfoldable pub wrong_winter : Winter → Bool
wrong_winter w = ltb w.days 151 || ltb 152 w.days

-- rule 1.16: 10, the book has no such day
unfoldable pub no_day : Winter → ℕ → Bool
no_day w d = leb w.days d

-- rule 1.10: the winter period, from 1 December on
unfoldable pub in_period : Winter → ℕ → Bool
in_period w d = leb w.december d && ltb d w.days

-- 1 March of a book of n days: 31 March is its last, day n - 1 (rule 1.5)
abbrev pub march_first : ℕ → ℕ
march_first n = n - 31

-- and 8 March, with which its second week begins (rule 1.19)
abbrev pub march_eighth : ℕ → ℕ
march_eighth n = n - 24
