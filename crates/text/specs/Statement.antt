-- The statement of a text.
-- Assumes nothing.
use Rattle.std.specs.Prelude.{ℕ, ◌*◌, Bool, cond, List, ◌++◌, ltb, length, get_or, drop, replicate}
use Rattle.credit.specs.Lines.{line_numbers}
use Rattle.credit.specs.Settlement.{settlement, written}
use Rattle.form.specs.Form.{notices_said}
use Rattle.laws.specs.Answer.{Answer}
use Rattle.laws.specs.Table.{is_refusal}
use Rattle.notices.specs.Notices.{count_of}
use Rattle.printing.specs.Sheet.{refused_bytes, statement_bytes}
use Rattle.text.specs.Refusals.{text_refusal}
use Rattle.text.specs.Values.{winter_said, price_said, book_said}

-- an output with just the room for the lines of a list: four numbers a notice
abbrev pub room_for : List ℕ → ℕ
room_for l = line_numbers * count_of l

-- the settlement of winter, book, price and list, printed (rule 8.10)
unfoldable pub settled_bytes : ℕ → List ℕ → ℕ → List ℕ → List ℕ
settled_bytes w book p l =
    let s = settlement w book p l (room_for l) in
    statement_bytes w p l (written w book p l (replicate (room_for l) 0)) s.energy s.cents

-- the line of a refusal, or the statement where nothing is refused
unfoldable pub told_bytes : Answer → List ℕ → List ℕ
told_bytes refusal statement = cond (is_refusal refusal) (refused_bytes refusal.number (get_or refusal.values 0 0)) statement

-- the bytes of the statement of a text, or of its refusal (rule 4.19)
unfoldable pub statement_of : List ℕ → List ℕ
statement_of s = told_bytes (text_refusal s) (settled_bytes (winter_said s) (book_said s) (price_said s) (notices_said s))

-- the bytes that every answer has room in; an output with fewer gets none (rule 8.15)
abbrev pub answer_room : ℕ
answer_room = 20480

abbrev pub too_small : List ℕ → Bool
too_small out = ltb (length out) answer_room

-- an output that starts with some bytes, and then is as it was
abbrev pub starts_with : List ℕ → List ℕ → List ℕ
starts_with bytes out = bytes ++ drop (length bytes) out

-- how many bytes the call on a text answers (rule 8.14)
unfoldable pub answered : List ℕ → List ℕ → ℕ
answered s out = cond (too_small out) 0 (length (statement_of s))

-- and what it leaves in the output (rule 8.14)
unfoldable pub answered_in : List ℕ → List ℕ → List ℕ
answered_in s out = cond (too_small out) out (starts_with (statement_of s) out)
