-- The energies on bytes: the same definitions, on the numbers that the bytes stand for.
-- Assumes nothing.
use Rattle.std.specs.Prelude.{ℕ, ◌*◌, ◌/◌, cond, List, eqb, length}
use Rattle.notices.specs.Notices.{count_of}
use Rattle.settlement.specs.Energies.{Spared, energies_of}
use Rattle.settlement.specs.Events.{event_at}
use Rattle.settlement.specs.Lines.{line_numbers, lines_to}
use Rattle.wire.specs.Bytes.{bytes_over}
use Rattle.wire.specs.Decoded.{decoded}
use Rattle.boundary.specs.Calls.{packed}

abbrev pub packed_spared : Spared → ℕ
packed_spared s = packed s.number s.place

-- an output once its lines are there: the bytes of the lines, and then its own
abbrev pub energy_lines_over : ℕ → List ℕ → List ℕ → List ℕ → List ℕ
energy_lines_over w book list out = bytes_over (lines_to (event_at w book list) (count_of list)) (line_numbers * count_of list) out

-- the lines of numbers put over the bytes of an output, which has room for so many numbers
unfoldable pub energies_over : ℕ → List ℕ → List ℕ → ℕ → List ℕ → List ℕ
energies_over w book list room out = cond (eqb (energies_of w book list room).number 0) (energy_lines_over w book list out) out

-- the energies; the last number is how many bytes the output has, and 64-bit numbers have eight (rule 9.4)
unfoldable pub energies_call : ℕ → List ℕ → List ℕ → ℕ → ℕ
energies_call w book list bytes = packed_spared (energies_of w (decoded book) (decoded list) (bytes / 8))

-- and what they leave in the output
unfoldable pub energies_bytes : ℕ → List ℕ → List ℕ → List ℕ → List ℕ
energies_bytes w book list out = energies_over w (decoded book) (decoded list) (length out / 8) out
