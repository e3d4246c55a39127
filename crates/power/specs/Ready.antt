-- What the private functions ask: a notice as profile 2 leaves it, references that are not refused, room, and sums that fit.
-- Assumes nothing.
use Rattle.std.specs.Prelude.{ℕ, ◌*◌, ◌≤◌, ◌<◌, List, ◌≡◌, length}
use Rattle.book.specs.Length.{day_hours}
use Rattle.notices.specs.Notices.{most_notices, notice_at, hours_of}
use Rattle.notices.specs.declared.notices.Notice.{Notice}
use Rattle.power.specs.Lines.{power_line_numbers}
use Rattle.power.specs.Reduced.{reference_at}
use Rattle.power.specs.Refusals.{largest_reference}

-- three or four hours of a book's day, and a reference that is not too large
pub record Ready (reference : ℕ) (n : Notice) : Type 0 where
  pub low : reference ≤ largest_reference
  pub in_book : n.day < 152
  pub some_hour : n.start < n.end
  pub in_day : n.end ≤ day_hours
  pub three : 3 ≤ hours_of n
  pub four : hours_of n ≤ 4

-- n notices, each with its reference, and room for their lines
pub record AllReady (l references : List ℕ) (room n : ℕ) : Type 0 where
  pub room_enough : power_line_numbers * n ≤ room
  pub few : n ≤ most_notices
  pub as_many : length references ≡ n
  pub each : (k : ℕ) → k < n → Ready (reference_at references k) (notice_at l k)

-- no reduction is larger: the largest reference, in twelfths of a W
abbrev pub largest_reduction : ℕ
largest_reduction = 12 * largest_reference

-- a sum of so many reductions, of no more events than a list has notices
pub record MeanFits (sum count : ℕ) : Type 0 where
  pub sum_most : sum ≤ largest_reduction * count
  pub few : count ≤ most_notices
