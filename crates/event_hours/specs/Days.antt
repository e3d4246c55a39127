-- The event hours of all days together, filled from the notices of a list: rule 2.14.
-- Assumes nothing.
use Rattle.std.specs.Prelude.{ℕ, zero, suc, Bool, cond, ◌||◌, List, leb, ltb, get_or, set, replicate}
use Rattle.std.specs.Int.Bits.{bit_or}
use Rattle.notices.specs.Notices.{count_of, notice_at}
use Rattle.notices.specs.declared.notices.Notice.{Notice}
use Rattle.event_hours.specs.Hours.{hours_mask, own_hours}

-- a notice that names no hours of a day that a book can have; no list with such a notice is accepted (rule 2.14)
unfoldable pub marks_none : Notice → Bool
marks_none n = leb 152 n.day || leb n.end n.start || ltb 24 n.end

-- the hours of a notice
abbrev pub hours_in : Notice → ℕ
hours_in n = hours_mask n.start n.end

-- the masks with the hours of one notice more
unfoldable pub with_hours : List ℕ → Notice → List ℕ
with_hours masks n = cond (marks_none n) masks (set masks n.day (bit_or (get_or masks n.day 0) (hours_in n)))

-- the masks of the first k notices of a list (rule 2.14)
unfoldable pub masks_to : List ℕ → ℕ → List ℕ
masks_to l zero = replicate 152 0
masks_to l (suc k) = with_hours (masks_to l k) (notice_at l k)

unfoldable pub masks_of : List ℕ → List ℕ
masks_of l = masks_to l (count_of l)

-- the mask of day d
abbrev pub day_mask : List ℕ → ℕ → ℕ
day_mask l d = get_or (masks_of l) d 0

-- the hours of the event that the notice at index k is, as they are read back from its day's mask
abbrev pub event_hours : List ℕ → ℕ → ℕ
event_hours l k = own_hours (day_mask l (notice_at l k).day) (notice_at l k).start
