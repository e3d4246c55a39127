-- The refusals of the cents, in their order: 3, 4 and 6, and then 7 for one energy after another from the first.
-- Assumes nothing.
use Rattle.std.specs.Prelude.{ℕ, List, [], ◌∷◌, ◌++◌, ltb, length}
use Rattle.laws.specs.Above.{above_table}
use Rattle.laws.specs.Answer.{Answer}
use Rattle.laws.specs.Bounds.{largest_energy}
use Rattle.laws.specs.Table.{Row, row, first_of}
use Rattle.money.specs.Price.{bad_price}
use Rattle.money.specs.Worth.{most_energies}

-- by the price (rule 4.5), and by how many energies there are and how many numbers the output has
unfoldable pub price_rows : ℕ → ℕ → ℕ → List Row
price_rows p energies room = row 3 0 (bad_price p) ∷ row 4 0 (ltb most_energies energies) ∷ row 6 0 (ltb room energies) ∷ []

-- the energies, one after another: one that is above the largest is refused at its index
abbrev pub energy_rows : List ℕ → List Row
energy_rows energies = above_table 7 largest_energy energies

-- the whole table, and the first row of it that is broken
unfoldable pub cents_table : ℕ → List ℕ → ℕ → List Row
cents_table p energies room = price_rows p (length energies) room ++ energy_rows energies

unfoldable pub cents_refusal : ℕ → List ℕ → ℕ → Answer
cents_refusal p energies room = first_of (cents_table p energies room)
