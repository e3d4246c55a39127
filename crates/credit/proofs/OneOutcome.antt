-- No second outcome: what `settle` gives is read back from its answer on paper.
-- Assumes nothing.
use mathlib.Core.Bool.{cond, not}
use mathlib.Core.Path.{◌≡◌, refl}
use lib.Dec.{eqb}
use Rattle.std.specs.Prelude.{Ok, Err, Result}
use Rattle.laws.proofs.ReadBack.{read_back}
use Rattle.refusals.proofs.RuleNumbers.{refused_is, rule_of, rule_back}
use Rattle.refusals.specs.Refusals.{at}
use Rattle.refusals.specs.declared.refusal.Refusal.{Refusal}
use Rattle.credit.specs.Settlement.{Settlement, settlement_paper}
use Rattle.credit.specs.declared.lines.Totals.{Totals}

settlement_back : Settlement → Result Totals Refusal
settlement_back a = cond (not (eqb a.number 0)) (Err (at (rule_of a.number) a.place)) (Ok (record { energy = a.energy; cents = a.cents }))

pub settlement_one : (r s : Result Totals Refusal) (a : Settlement) → settlement_paper r ≡ a → settlement_paper s ≡ a → r ≡ s
unfolding settlement_back
settlement_one = read_back settlement_paper settlement_back inv
  where
    inv : (r : Result Totals Refusal) → settlement_back (settlement_paper r) ≡ r
    inv (Ok totals) = refl
    inv (Err refusal) = rw (refused_is refusal.rule refusal.place, rule_back refusal.rule) refl
