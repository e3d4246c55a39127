-- `put_cents` puts the cents one after another. Invariant: the cents of the first k energies are done, the rest of the output is as it was, and the
-- sum of the k energies and what it is worth are at hand.
-- Assumes nothing.
use Prim.Native.Nat.{ℕ}
use mathlib.Core.List.{List, [], ◌∷◌}
use mathlib.Core.Path.{◌≡◌}
use lib.ListN.{length}
use Rattle.laws.proofs.RowLaws.{Filled}
use Rattle.laws.specs.Sums.{sum_to}
use Rattle.money.specs.Cents.{cents_at, row_energy}
use Rattle.money.specs.Worth.{rounded_worth}
use Rattle.money.proofs.pricing.put_cents.Given as goal

pub record Carried (p : ℕ) (energies came out : List ℕ) (energy worth k : ℕ) : Type 0 where
  pub energy_is : energy ≡ sum_to (row_energy energies) k
  pub worth_of_it : worth ≡ rounded_worth p (sum_to (row_energy energies) k)
  pub filled : Filled 1 (λ (i : ℕ). cents_at p (row_energy energies) i ∷ []) came (length energies) out k

abbrev pub invariant-loop-k : goal.invariant-loop-k
invariant-loop-k l = Carried l.price l.energies l.initial.out l.out l.energy l.worth l.k
