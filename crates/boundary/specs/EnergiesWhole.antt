-- What the private functions ask and ensure: the energies on bytes whose lengths are right.
-- Assumes nothing.
use Rattle.std.specs.Prelude.{ℕ, ◌*◌, ◌/◌, ◌≤◌, List, ◌≡◌}
use Rattle.book.specs.Length.{most_readings}
use Rattle.notices.specs.Notices.{longest_list, count_in, count_of}
use Rattle.settlement.specs.Energies.{energies_of}
use Rattle.settlement.specs.Lines.{line_numbers}
use Rattle.boundary.specs.EnergiesCall.{packed_spared, energies_over}

-- there is room for the numbers, and for the lines in the output
pub record EnergiesLengths (book list out : ℕ) : Type 0 where
  pub hours : book / 4 ≤ most_readings
  pub notices : list / 4 ≤ longest_list
  pub room_enough : 8 * (line_numbers * count_in (list / 4)) ≤ out

-- the lines of a list have just their room, and so have their bytes in the output
pub record EnergiesRoom (list : List ℕ) (lines out : ℕ) : Type 0 where
  pub just : lines ≡ line_numbers * count_of list
  pub bytes_fit : 8 * lines ≤ out

-- the call with just the room for its lines
unfoldable pub whole_energies : ℕ → List ℕ → List ℕ → ℕ
whole_energies w book list = packed_spared (energies_of w book list (line_numbers * count_of list))

unfoldable pub whole_energies_bytes : ℕ → List ℕ → List ℕ → List ℕ → List ℕ
whole_energies_bytes w book list out = energies_over w book list (line_numbers * count_of list) out

-- what the energies of numbers leave: their answer to C, and the bytes of the output
pub record SparedBytes (w : ℕ) (book list out : List ℕ) (answer : ℕ) (after : List ℕ) : Type 0 where
  pub answer_is : answer ≡ whole_energies w book list
  pub bytes_are : after ≡ whole_energies_bytes w book list out
