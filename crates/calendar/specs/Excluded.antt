-- Excluded days.
-- Assumes nothing.
use Rattle.std.specs.Prelude.{ℕ, ◌+◌, Bool, false, not, ◌&&◌, ◌||◌, List, [], ◌∷◌, eqb}
use Rattle.calendar.specs.Days.{no_day}
use Rattle.calendar.specs.declared.answers.Winter.{Winter}

-- rule 1.11: the six days that every winter excludes
abbrev pub fixed_days : List ℕ
fixed_days = 53 ∷ 54 ∷ 55 ∷ 60 ∷ 61 ∷ 62 ∷ []

-- whether d is one of a list of days
unfoldable pub among : ℕ → List ℕ → Bool
among d [] = false
among d (x ∷ xs) = eqb x d || among d xs

unfoldable pub good_friday : Winter → ℕ → Bool
good_friday w d = eqb (d + 2) w.easter

unfoldable pub easter_monday : Winter → ℕ → Bool
easter_monday w d = eqb d (w.easter + 1)

-- rules 1.11 and 1.12: one of the six, or beside Easter Sunday and in the book
unfoldable pub excluded : Winter → ℕ → Bool
excluded w d = among d fixed_days || (not (no_day w d) && (good_friday w d || easter_monday w d))
