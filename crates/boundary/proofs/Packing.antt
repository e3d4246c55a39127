-- The one number that a verdict is for C: its number and place in one, since no list has a place past 65535; and so of a refusal that `?` hands on.
-- Assumes nothing.
use Prim.Native.Nat.{◌≤◌}
use mathlib.Core.Path.{◌≡◌}
use native.Mathlib.Omega.{arith}
use Rattle.laws.specs.Bounds.{largest_place}
use Rattle.refusals.proofs.RuleNumbers.{number_range}
use Rattle.refusals.specs.Packed as one
use Rattle.refusals.specs.Refusals.{rule_number, at, number_of, place_of}
use Rattle.refusals.specs.declared.refusal.Refusal.{Refusal}
use Rattle.refusals.specs.declared.rule.Rule.{Rule}
use Rattle.std.specs.Prelude.{Result, IsErrAnd}
use Rattle.std.proofs.lemmas.Result.{err_from_is_err_and}
use Rattle.boundary.specs.Calls.{packed}

-- a rule that refuses has a number, so the one number is not 0
pub some : (rule : Rule) → rule_number rule ≡ 0 → ⊥
some rule z = let range = number_range rule in omega arith

pub packed_is : {A : Type 0} (v : Result A Refusal) → place_of v ≤ largest_place → one.packed v ≡ packed (number_of v) (place_of v)
packed_is v h = omega arith

module _ (v : Result (Unit {0}) Refusal) where
  pub packed_refusal : (r : Refusal) → IsErrAnd v (λ x. x ≡ r) → r.place ≤ largest_place → one.packed v ≡ packed (rule_number r.rule) r.place
  packed_refusal r told h = let err = err_from_is_err_and v told in rw (err.1, err.2) (omega arith)

  -- a rule that refuses the whole call
  pub packed_rule : (rule : Rule) → IsErrAnd v (λ x. x ≡ at rule 0) → one.packed v ≡ packed (rule_number rule) 0
  packed_rule rule told = packed_refusal (at rule 0) told (omega arith)
