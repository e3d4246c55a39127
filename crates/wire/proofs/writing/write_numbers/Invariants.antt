-- `write_numbers` fills the bytes from the front, eight at a time.
-- The invariant: the first 8 * i are those of the first i numbers, the others as they were, and there are as many as there were.
-- Assumes nothing.
use Prim.Native.Nat.{ℕ}
use lib.ListN.{get_or}
use Rattle.laws.proofs.RowLaws.{Filled}
use Rattle.wire.specs.Bytes.{eight_bytes}
use Rattle.wire.proofs.writing.write_numbers.Given as goal

abbrev pub invariant-loop-i : goal.invariant-loop-i
invariant-loop-i l = Filled 8 (λ (k : ℕ). eight_bytes (get_or l.numbers k 0)) l.initial.bytes l.count l.bytes l.i
