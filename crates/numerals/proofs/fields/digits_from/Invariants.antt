-- The digits of a number are the definition's. Invariant: the digits that are left come to the same field as all.
-- Assumes nothing.
use Prim.Native.Nat.{◌≤◌}
use mathlib.Core.Path.{◌≡◌}
use lib.ListN.{drop}
use Rattle.numerals.specs.Fields.{largest, digits_from}
use Rattle.numerals.proofs.fields.digits_from.Given as goal

abbrev pub invariant-loop-i : goal.invariant-loop-i
invariant-loop-i l =
    (l.value ≤ largest) × (digits_from (drop l.i l.text) l.i l.value ≡ digits_from (drop l.from l.text) l.from l.first)
