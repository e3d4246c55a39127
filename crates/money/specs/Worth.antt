-- What energy is worth.
-- Assumes nothing.
use Rattle.std.specs.Prelude.{ℕ, ◌*◌, cond, ◌||◌, ltb}
use Rattle.laws.specs.Bounds.{largest_energy}
use Rattle.money.specs.Nearest.{nearest_whole}
use Rattle.money.specs.Price.{bad_price}

-- the parts of a cent in which worth is exact (rule 7.2)
abbrev pub cent_parts : ℕ
cent_parts = 18000000

-- rule 7.2: what energy e is worth at price p, in these parts
abbrev pub exact_worth : ℕ → ℕ → ℕ
exact_worth p e = e * p

-- rule 7.3: in whole cents, a half being one
unfoldable pub rounded_worth : ℕ → ℕ → ℕ
rounded_worth p e = nearest_whole (exact_worth p e) cent_parts

-- so many energies are priced at most in a row, each no larger than the largest
abbrev pub most_energies : ℕ
most_energies = 100

-- the most energy that is priced at once: that of a hundred events (rule 7.9)
abbrev pub most_energy : ℕ
most_energy = 100 * largest_energy

-- what the call answers: 0 at a price that is refused, and for more energy than a winter can have (rule 7.9)
unfoldable pub worth_of : ℕ → ℕ → ℕ
worth_of p e = cond (bad_price p || ltb most_energy e) 0 (rounded_worth p e)
