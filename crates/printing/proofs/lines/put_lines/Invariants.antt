-- `put_lines` puts one line a turn. Invariant: the lines of the first k notices are put, each in 152 bytes at most.
-- Assumes nothing.
use Prim.Native.Nat.{◌+◌, ◌*◌, ◌≤◌}
use Rattle.numerals.specs.Lines.{bytes_of_lines}
use Rattle.numerals.specs.Put.{Put}
use Rattle.printing.specs.Sheet.{notice_lines}
use Rattle.printing.proofs.lines.put_lines.Given as goal

abbrev pub invariant-loop-k : goal.invariant-loop-k
invariant-loop-k l =
    (l.next ≤ l.at + 152 * l.k) × Put l.initial.out l.at (bytes_of_lines (notice_lines l.list l.lines l.k)) l.next l.out
