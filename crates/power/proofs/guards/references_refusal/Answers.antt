-- `references_refusal` refuses the first reference that is too large, at its index.
-- Assumes nothing.
use mathlib.Core.Path.{sym}
use native.Mathlib.Omega.{arith}
use Rattle.laws.proofs.FirstAbove.{first_refuses, none_refuses}
use Rattle.power.specs.Refusals.{largest_reference}
use Rattle.power.proofs.ReferenceLaws.{references_are}
use Rattle.power.proofs.guards.references_refusal.Goals as goal

pub returns-in-Some : goal.returns-in-Some
returns-in-Some c = rw (c.at.ensures, references_are) (first_refuses 41 largest_reference _ _ (omega arith) (sym c.in-Some.ensures))

pub returns-in-None : goal.returns-in-None
returns-in-None c = rw references_are (none_refuses 41 largest_reference _ (sym c.in-None.ensures))
