-- The price of energy, in thousandths of a cent per kWh.
-- Assumes nothing.
use Rattle.std.specs.Prelude.{ℕ, Bool, ◌||◌, ltb}

abbrev pub highest_price : ℕ
highest_price = 1000000

-- rules 4.5 and 7.1: 3, no price is so low or so high
unfoldable pub bad_price : ℕ → Bool
bad_price p = ltb p 1 || ltb highest_price p
