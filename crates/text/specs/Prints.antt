-- What the call's own functions ask and promise: bytes printed at the front of the output, and what its arrays hold of a text.
-- Assumes nothing.
use Rattle.std.specs.Prelude.{ℕ, ◌*◌, ◌≤◌, false, List, ◌≡◌, length, replicate, Option, None}
use Rattle.std.proofs.lemmas.List.Edits.{sets}
use Rattle.book.specs.Length.{book_length, most_readings}
use Rattle.credit.proofs.RefusalLaws.{RightCall}
use Rattle.dates.specs.Winters.{no_winter, days}
use Rattle.form.specs.declared.whole.Shape.{Shape}
use Rattle.laws.specs.Table.{first_of}
use Rattle.notices.specs.Notices.{notice_numbers, longest_list}
use Rattle.text.specs.Refusals.{value_rows}
use Rattle.text.specs.Statement.{answer_room, starts_with, room_for, settled_bytes, told_bytes}

-- so many bytes at the front of an output, and then what it held
pub record Prints (bytes out : List ℕ) (n : ℕ) (after : List ℕ) : Type 0 where
  pub count : n ≡ length bytes
  pub front : after ≡ starts_with bytes out

-- so many notices, and the array of the first 100 of them
pub record Holds (events : ℕ) (notices list : List ℕ) : Type 0 where
  pub three : length notices ≡ notice_numbers * events
  pub held : list ≡ sets (replicate longest_list 0) 0 notices

-- what is printed by the notices, whatever notices they are of which the array holds the first
pub record PrintsHeld (events : ℕ) (list : List ℕ) (bytes : List ℕ → List ℕ) (out : List ℕ) (n : ℕ) (after : List ℕ) : Type 0 where
  pub for_each : (notices : List ℕ) → Holds events notices list → Prints (bytes notices) out n after

-- the call's arrays and its output
pub record Arrays (list book out : List ℕ) : Type 0 where
  pub hundred : length list ≡ longest_list
  pub days : length book ≡ most_readings
  pub room : answer_room ≤ length out

-- past 1 and 31: the winter is one, with its own book, and no read line is misplaced in it
pub record InBook (f : Shape) (list book out : List ℕ) : Type 0 where
  pub winter : no_winter f.winter ≡ false
  pub placed : f.misplaced ≡ None
  pub hundred : length list ≡ longest_list
  pub days : length book ≡ book_length (days f.winter)
  pub room : answer_room ≤ length out

-- past 3 and 4 too: the settlement is refused by no more than its notices; and there is just the room for the lines, and that of every answer
pub record NoticesLeft (w : ℕ) (book : List ℕ) (p : ℕ) (list lines out : List ℕ) : Type 0 where
  pub call : RightCall w (length book) p (length list) (length lines)
  pub just : length lines ≡ room_for list
  pub room : answer_room ≤ length out

-- what is printed of the values of a text that has the form, of which 32 and 30 are past: winter, price, list, the first line that is misplaced
-- and the book
unfoldable pub values_bytes : ℕ → ℕ → List ℕ → Option ℕ → List ℕ → List ℕ
values_bytes w p l line book = told_bytes (first_of (value_rows w line p l)) (settled_bytes w book p l)

-- the same by the shape of the text, its book and its notices
abbrev pub shape_bytes : Shape → List ℕ → List ℕ → List ℕ
shape_bytes f book notices = values_bytes f.winter f.price notices f.misplaced book
