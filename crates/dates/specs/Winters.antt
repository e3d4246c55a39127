-- Winters and how many days their books have.
-- Assumes nothing.
use Rattle.std.specs.Prelude.{ℕ, ◌+◌, ◌%◌, Bool, not, cond, ◌&&◌, ◌||◌, ltb, eqb}

-- rules 1.1 and 4.3: 1, no winter has this name
unfoldable pub no_winter : ℕ → Bool
no_winter y = ltb y 2010 || ltb 2098 y

-- a leap year of the Gregorian calendar (rule 1.4)
unfoldable pub leap : ℕ → Bool
leap y = eqb (y % 4) 0 && (not (eqb (y % 100) 0) || eqb (y % 400) 0)

-- rule 1.3: N, with the leap day of the year after
unfoldable pub days : ℕ → ℕ
days y = cond (leap (y + 1)) 152 151
