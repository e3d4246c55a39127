-- No second outcome: what `energies` gives is read back from its answer on paper.
-- Assumes nothing.
use Prim.Native.Nat.{ℕ}
use mathlib.Core.Bool.{cond, not}
use mathlib.Core.Path.{◌≡◌, refl}
use lib.Dec.{eqb}
use Rattle.std.specs.Prelude.{Ok, Err, Result}
use Rattle.laws.proofs.ReadBack.{read_back}
use Rattle.refusals.proofs.RuleNumbers.{refused_is, rule_of, rule_back}
use Rattle.refusals.specs.Refusals.{at}
use Rattle.refusals.specs.declared.refusal.Refusal.{Refusal}
use Rattle.settlement.specs.Energies.{Spared, spared_paper}

spared_back : Spared → Result ℕ Refusal
spared_back a = cond (not (eqb a.number 0)) (Err (at (rule_of a.number) a.place)) (Ok a.energy)

pub spared_one : (r s : Result ℕ Refusal) (a : Spared) → spared_paper r ≡ a → spared_paper s ≡ a → r ≡ s
unfolding spared_back
spared_one = read_back spared_paper spared_back inv
  where
    inv : (r : Result ℕ Refusal) → spared_back (spared_paper r) ≡ r
    inv (Ok energy) = refl
    inv (Err refusal) = rw (refused_is refusal.rule refusal.place, rule_back refusal.rule) refl
