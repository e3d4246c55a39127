-- The calls on bytes: the same definitions, on the numbers that the bytes stand for.
-- Assumes nothing.
use Rattle.std.specs.Prelude.{ℕ, ◌+◌, ◌*◌, ◌/◌, cond, List, eqb, length, get_or}
use Rattle.laws.specs.Answer.{Answer}
use Rattle.credit.specs.Lines.{line_numbers, lines_to}
use Rattle.settlement.specs.Events.{event_at}
use Rattle.credit.specs.Settlement.{Settlement, settlement}
use Rattle.notices.specs.Notices.{count_of}
use Rattle.schedule.specs.ListCheck.{check_answer}
use Rattle.wire.specs.Bytes.{bytes_over}
use Rattle.wire.specs.Decoded.{decoded}

-- rule 9.5: number and place in one number
abbrev pub packed : ℕ → ℕ → ℕ
packed number place = 65536 * number + place

abbrev pub packed_answer : Answer → ℕ
packed_answer a = packed a.number (get_or a.values 0 0)

abbrev pub packed_settlement : Settlement → ℕ
packed_settlement s = packed s.number s.place

-- the list check (rule 9.1)
unfoldable pub check_call : ℕ → ℕ → List ℕ → ℕ
check_call w profile list = packed_answer (check_answer w profile (decoded list))

-- an output once its lines are there: the bytes of the lines, and then its own (rule 9.7)
abbrev pub lines_over : ℕ → List ℕ → ℕ → List ℕ → List ℕ → List ℕ
lines_over w book p list out = bytes_over (lines_to p (event_at w book list) (count_of list)) (line_numbers * count_of list) out

-- the settlement of numbers, its lines put over the bytes of an output, which has room for so many numbers
unfoldable pub settled_over : ℕ → List ℕ → ℕ → List ℕ → ℕ → List ℕ → List ℕ
settled_over w book p list room out = cond (eqb (settlement w book p list room).number 0) (lines_over w book p list out) out

-- the settlement; the last number is how many bytes the output has, and 64-bit numbers have eight (rules 9.1 and 9.4)
unfoldable pub settle_call : ℕ → List ℕ → ℕ → List ℕ → ℕ → ℕ
settle_call w book p list bytes = packed_settlement (settlement w (decoded book) p (decoded list) (bytes / 8))

-- and what it leaves in the output (rule 9.7)
unfoldable pub settle_bytes : ℕ → List ℕ → ℕ → List ℕ → List ℕ → List ℕ
settle_bytes w book p list out = settled_over w (decoded book) p (decoded list) (length out / 8) out
