-- `read_numbers` fills the numbers from the front.
-- The invariant: the first i are those of the bytes, the others as they were, and there are as many as there were.
-- Assumes nothing.
use Prim.Native.Nat.{ℕ, ◌*◌}
use mathlib.Core.List.{[], ◌∷◌}
use Rattle.laws.proofs.RowLaws.{Filled}
use Rattle.wire.specs.Bytes.{four_bytes_at}
use Rattle.wire.proofs.reading.read_numbers.Given as goal

abbrev pub invariant-loop-i : goal.invariant-loop-i
invariant-loop-i l = Filled 1 (λ (k : ℕ). four_bytes_at l.bytes (4 * k) ∷ []) l.initial.numbers l.count l.numbers l.i
