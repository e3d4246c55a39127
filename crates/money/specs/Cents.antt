-- The cents of energies one after another, by index.
-- Assumes nothing.
use Rattle.std.specs.Prelude.{ℕ, suc, ◌-◌, List, [], ◌∷◌, length, get_or}
use Rattle.laws.specs.Rows.{rows_to, numbers_over}
use Rattle.laws.specs.Sums.{sum_to}
use Rattle.money.specs.Worth.{rounded_worth}

-- rule 7.4: the cents of the line at index k
unfoldable pub cents_at : ℕ → (ℕ → ℕ) → ℕ → ℕ
cents_at p energy_at k = rounded_worth p (sum_to energy_at (suc k)) - rounded_worth p (sum_to energy_at k)

-- the energy at an index of a row
abbrev pub row_energy : List ℕ → ℕ → ℕ
row_energy energies k = get_or energies k 0

-- the cents of all energies, one number each, and an output with them at its front and the rest as it was
abbrev pub cents_to : ℕ → List ℕ → List ℕ
cents_to p energies = rows_to (λ (k : ℕ). cents_at p (row_energy energies) k ∷ []) (length energies)

abbrev pub cents_in : ℕ → List ℕ → List ℕ → List ℕ
cents_in p energies out = numbers_over (cents_at p (row_energy energies)) (length energies) out

-- the cents at an index of an output
abbrev pub cents_for : List ℕ → ℕ → ℕ
cents_for out k = get_or out k 0

-- the total, which is what all of them are worth
abbrev pub total_cents : ℕ → List ℕ → ℕ
total_cents p energies = rounded_worth p (sum_to (row_energy energies) (length energies))
