-- No second outcome: what `settle` gives is read back from its answer on paper.
-- Assumes nothing.
use mathlib.Core.Bool.{cond, not}
use mathlib.Core.Path.{◌≡◌, refl}
use lib.Dec.{eqb}
use Rattle.std.specs.Prelude.{Ok, Err, Result}
use Rattle.laws.proofs.ReadBack.{read_back}
use Rattle.refusals.proofs.RuleNumbers.{refused_is, rule_of, rule_back}
use Rattle.refusals.specs.Refusals.{at}
use Rattle.refusals.specs.declared.refusal.Refusal.{Refusal}
use Rattle.power.specs.Settlement.{PowerSettlement, power_paper}
use Rattle.power.specs.declared.call.PowerTotals.{PowerTotals}

power_back : PowerSettlement → Result PowerTotals Refusal
power_back a =
    cond (not (eqb a.number 0)) (Err (at (rule_of a.number) a.place)) (Ok (record { sum = a.sum; settled = a.settled; cents = a.cents }))

pub power_one : (r s : Result PowerTotals Refusal) (a : PowerSettlement) → power_paper r ≡ a → power_paper s ≡ a → r ≡ s
unfolding power_back
power_one = read_back power_paper power_back inv
  where
    inv : (r : Result PowerTotals Refusal) → power_back (power_paper r) ≡ r
    inv (Ok totals) = refl
    inv (Err refusal) = rw (refused_is refusal.rule refusal.place, rule_back refusal.rule) refl
