-- The numbers of a line are the definition's, and are stored. Invariant: the numbers that are left tell and store what all tell and store.
-- Assumes nothing.
use Prim.Native.Nat.{◌-◌}
use Rattle.numerals.specs.Rows.{row_at}
use Rattle.numerals.proofs.RowLaws.{Left}
use Rattle.numerals.proofs.rows.row_at.Given as goal

abbrev pub invariant-loop-count : goal.invariant-loop-count
invariant-loop-count l = Left (row_at l.most l.text l.at) l.initial.out l.first (row_at (l.most - l.count) l.text l.i) l.out l.count l.k
