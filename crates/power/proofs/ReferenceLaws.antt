-- The rows of the references are those of numbers that are refused where they are too large, and so are their laws.
-- Assumes nothing.
use Prim.Native.Nat.{ℕ, ◌≤◌}
use mathlib.Core.List.{List}
use mathlib.Core.Path.{◌≡◌, ap, sym}
use native.Mathlib.Omega.{arith}
use lib.ListN.{length}
use Rattle.laws.proofs.Above as above
use Rattle.laws.proofs.Tables.{Numbered, NoneBroken, RowsBounded}
use Rattle.laws.specs.Above.{above_table}
use Rattle.laws.specs.Rows.{rows_to}
use Rattle.notices.specs.Notices.{most_notices}
use Rattle.power.specs.Refusals.{largest_reference, reference_rows, references_table}

module _ (references : List ℕ) where
  pub references_are : references_table references ≡ above_table 41 largest_reference references
  unfolding reference_rows
  references_are = ap (λ rows. rows_to rows (length references)) (sym (above.rows_are 41 largest_reference references))

  abbrev pub AllLow : Type 0
  AllLow = above.AllLow largest_reference references

  pub references_numbered : Numbered (references_table references)
  references_numbered = rw references_are (above.table_numbered 41 largest_reference references (omega arith))

  -- no reference is refused exactly where none is too large
  pub none_low : NoneBroken (references_table references) → AllLow
  none_low none = above.none_low 41 largest_reference references (rw references_are at none)

  pub low_none : AllLow → NoneBroken (references_table references)
  low_none low = rw references_are (above.low_none 41 largest_reference references low)

  pub references_bounded : length references ≤ most_notices → RowsBounded (references_table references)
  references_bounded few = rw references_are (above.table_bounded 41 largest_reference references (omega arith) (omega (arith, few)))
