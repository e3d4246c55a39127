-- No second outcome: what `cents` gives is read back from its answer on paper.
-- Assumes nothing.
use Prim.Native.Nat.{ℕ}
use mathlib.Core.Bool.{cond, not}
use mathlib.Core.Path.{◌≡◌, refl}
use lib.Dec.{eqb}
use Rattle.std.specs.Prelude.{Ok, Err, Result}
use Rattle.laws.proofs.ReadBack.{read_back}
use Rattle.money.specs.Pricing.{Priced, priced_paper}
use Rattle.refusals.proofs.RuleNumbers.{refused_is, rule_of, rule_back}
use Rattle.refusals.specs.Refusals.{at}
use Rattle.refusals.specs.declared.refusal.Refusal.{Refusal}

priced_back : Priced → Result ℕ Refusal
priced_back a = cond (not (eqb a.number 0)) (Err (at (rule_of a.number) a.place)) (Ok a.cents)

pub priced_one : (r s : Result ℕ Refusal) (a : Priced) → priced_paper r ≡ a → priced_paper s ≡ a → r ≡ s
unfolding priced_back
priced_one = read_back priced_paper priced_back inv
  where
    inv : (r : Result ℕ Refusal) → priced_back (priced_paper r) ≡ r
    inv (Ok cents) = refl
    inv (Err refusal) = rw (refused_is refusal.rule refusal.place, rule_back refusal.rule) refl
