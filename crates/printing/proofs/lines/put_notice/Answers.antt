-- `put_notice` puts a line of seven numbers, for which there is room.
-- Assumes nothing.
use Prim.Native.Nat.{ℕ, ◌+◌, ◌≤◌}
use mathlib.Core.List.{List}
use mathlib.Core.Path.{◌≡◌}
use native.Mathlib.Omega.{arith}
use lib.ListN.{length}
use Rattle.numerals.proofs.FieldWalk.{whole_line}
use Rattle.numerals.specs.Lines.{line_bytes}
use Rattle.numerals.specs.Put.{Put, line_put}
use Rattle.numerals.specs.Words.{bytes_of}
use Rattle.printing.specs.Room.{line_room}
use Rattle.printing.specs.Sheet.{numbers_at, notice_line}
use Rattle.printing.proofs.lines.put_notice.Goals as goal

-- the line of the notice's numbers
put_line_of : (l lines : List ℕ) (k : ℕ) {before after numbers : List ℕ} {at next : ℕ} → numbers ≡ numbers_at l lines k
    → Put before at (line_put (length before) at (bytes_of "line=") numbers) next after → at + line_room ≤ length before
    → Put before at (line_bytes (notice_line l lines k)) next after
unfolding notice_line
put_line_of l lines k is put room = whole_line (bytes_of "line=") (numbers_at l lines k) (rw is at put) (omega arith)

pub returns-clause-put : goal.returns-clause-put
returns-clause-put c = put_line_of _ _ c.args.k c.numbers_at-numbers.ensures c.put_line.ensures.put c.requires.1
