-- What the private functions ask and ensure: the settlement on bytes whose lengths are right.
-- Assumes nothing.
use Rattle.std.specs.Prelude.{ℕ, ◌*◌, ◌/◌, ◌≤◌, List, ◌≡◌, length}
use Rattle.book.specs.Length.{most_readings}
use Rattle.credit.specs.Lines.{line_numbers}
use Rattle.credit.specs.Settlement.{settlement}
use Rattle.notices.specs.Notices.{longest_list, count_in, count_of}
use Rattle.wire.specs.Bytes.{numbers_to}
use Rattle.boundary.specs.Calls.{packed_settlement, settled_over}

-- there is room for the numbers, and for the lines in the output
pub record Lengths (book list out : ℕ) : Type 0 where
  pub hours : book / 4 ≤ most_readings
  pub notices : list / 4 ≤ longest_list
  pub room_enough : 8 * (line_numbers * count_in (list / 4)) ≤ out

-- the lines of a list have just their room, and so have their bytes in the output
pub record JustRoom (list : List ℕ) (lines out : ℕ) : Type 0 where
  pub just : lines ≡ line_numbers * count_of list
  pub bytes_fit : 8 * lines ≤ out

-- all whole numbers of some bytes
unfoldable pub numbers_in_whole : List ℕ → List ℕ
numbers_in_whole bytes = numbers_to bytes (length bytes / 4)

-- the call with just the room for its lines
unfoldable pub whole_call : ℕ → List ℕ → ℕ → List ℕ → ℕ
whole_call w book p list = packed_settlement (settlement w book p list (line_numbers * count_of list))

unfoldable pub whole_bytes : ℕ → List ℕ → ℕ → List ℕ → List ℕ → List ℕ
whole_bytes w book p list out = settled_over w book p list (line_numbers * count_of list) out

-- what a settlement of numbers leaves: its answer to C, and the bytes of the output
pub record SettledBytes (w : ℕ) (book : List ℕ) (p : ℕ) (list out : List ℕ) (answer : ℕ) (after : List ℕ) : Type 0 where
  pub answer_is : answer ≡ whole_call w book p list
  pub bytes_are : after ≡ whole_bytes w book p list out
