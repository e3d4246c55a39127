-- The room that printing asks for, and what it leaves in a lent output.
-- Assumes nothing.
use Rattle.std.specs.Prelude.{ℕ, ◌/◌, Bool, cond, ◌||◌, List, ◌++◌, ltb, leb, length, drop}
use Rattle.credit.specs.Lines.{line_numbers}

-- the bytes that hold a line of seven numbers of 64 bits, whatever they are: 5 of the key, 20 digits and one byte more a number (rule 8.17)
abbrev pub line_room : ℕ
line_room = 152

-- whether some notices cannot be printed: their settlement has fewer numbers than four a notice, or the output has not the room of a line for
-- each and of one more for the rest (rule 8.17)
unfoldable pub cannot_print : ℕ → ℕ → ℕ → Bool
cannot_print notices numbers room = ltb (numbers / line_numbers) notices || leb (room / line_room) notices

-- the bytes at the front of the output and the rest as it was; nothing where they cannot be printed (rule 8.17)
unfoldable pub printed : Bool → List ℕ → List ℕ → List ℕ
printed cannot bytes out = cond cannot out (bytes ++ drop (length bytes) out)

-- how many bytes were printed
unfoldable pub printed_count : Bool → List ℕ → ℕ
printed_count cannot bytes = cond cannot 0 (length bytes)
