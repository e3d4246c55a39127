-- What the private functions ask and ensure: the medium-power settlement on bytes whose lengths are right.
-- Assumes nothing.
use Rattle.std.specs.Prelude.{ℕ, ◌*◌, ◌/◌, ◌≤◌, List, ◌≡◌}
use Rattle.book.specs.Length.{most_readings}
use Rattle.notices.specs.Notices.{most_notices, longest_list, count_in, count_of}
use Rattle.power.specs.Lines.{power_line_numbers}
use Rattle.power.specs.Refusals.{total_numbers}
use Rattle.power.specs.Settlement.{PowerSettlement, power_settlement}
use Rattle.power_boundary.specs.PowerCalls.{packed_power, power_over, power_totals}

-- there is room for the numbers, and for lines and totals in the outputs
pub record PowerLengths (book list references out totals : ℕ) : Type 0 where
  pub hours : book / 4 ≤ most_readings
  pub notices : list / 4 ≤ longest_list
  pub powers : references / 4 ≤ most_notices
  pub room_enough : 8 * (power_line_numbers * count_in (list / 4)) ≤ out
  pub totals_for : 8 * total_numbers ≤ totals

-- the lines of a list have just their room, and so have their bytes and the totals'
pub record PowerRoom (list : List ℕ) (lines out totals : ℕ) : Type 0 where
  pub just : lines ≡ power_line_numbers * count_of list
  pub bytes_fit : 8 * lines ≤ out
  pub totals_fit : 8 * total_numbers ≤ totals

-- the settlement with just the room for its lines and totals
unfoldable pub whole_power : ℕ → List ℕ → List ℕ → List ℕ → PowerSettlement
whole_power w book list references = power_settlement w book list references (power_line_numbers * count_of list) total_numbers

-- what a settlement of numbers leaves: its answer to C, and the bytes of the two outputs
pub record PowerSettled (w : ℕ) (book list references out totals : List ℕ) (answer : ℕ) (after after_totals : List ℕ) : Type 0 where
  pub answer_is : answer ≡ packed_power (whole_power w book list references)
  pub bytes_are : after ≡ power_over (whole_power w book list references) book list references out
  pub totals_are : after_totals ≡ power_totals (whole_power w book list references) totals
