-- The rates of effective power: rule 11.8's table.
-- Assumes nothing.
use Rattle.std.specs.Prelude.{ℕ, ◌*◌, Bool, cond, List, [], ◌∷◌, leb, ltb}

-- a kW, in twelfths of a W
abbrev pub kilowatt : ℕ
kilowatt = 12000

-- whether the exact mean of reductions, by their sum and by how many there are, is below so many kW, or at most so many (rule 11.7)
abbrev pub below : ℕ → ℕ → ℕ → Bool
below kilowatts sum count = ltb sum (kilowatts * (kilowatt * count))

abbrev pub at_most : ℕ → ℕ → ℕ → Bool
at_most kilowatts sum count = leb sum (kilowatts * (kilowatt * count))

-- a row: its rate stands for powers above those of the row before it, up to and with so many kW
pub record Rate : Type 0 where
  pub last_kilowatt : ℕ
  pub rate : ℕ

abbrev pub up_to : ℕ → ℕ → Rate
up_to kilowatts r = record { last_kilowatt = kilowatts; rate = r }

-- rule 11.8: in thousandths of a dollar a kW; nothing is paid below the least power, and above all rows the last rate
abbrev pub least_power : ℕ
least_power = 15

abbrev pub rates : List Rate
rates = up_to 199 66690 ∷ up_to 599 61560 ∷ up_to 1199 56430 ∷ up_to 1799 51300 ∷ []

abbrev pub last_rate : ℕ
last_rate = 46170

abbrev pub rate_in : List Rate → ℕ → ℕ → ℕ
rate_in [] sum count = last_rate
rate_in (r ∷ rows) sum count = cond (at_most r.last_kilowatt sum count) r.rate (rate_in rows sum count)

unfoldable pub rate_of : ℕ → ℕ → ℕ
rate_of sum count = cond (below least_power sum count) 0 (rate_in rates sum count)
