-- `put_fields` puts one number a turn. Invariant: the numbers that are left put what all put (`FieldWalk`).
-- Assumes nothing.
use Rattle.numerals.proofs.FieldWalk.{FieldsLeft}
use Rattle.numerals.proofs.writing.put_fields.Given as goal

abbrev pub invariant-loop-k : goal.invariant-loop-k
invariant-loop-k l = FieldsLeft l.initial.out l.at l.numbers l.out l.i l.k
