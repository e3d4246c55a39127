-- An event as its day's bits have it: rule 2.15. The counts of ones and of zeros are the kit's.
-- Assumes nothing.
use Rattle.std.specs.Prelude.{ℕ, ◌+◌, Bool, not, cond, ◌&&◌, List, leb, ltb, eqb, get_or}
use Rattle.std.specs.Int.Count.{ones, count_trailing_zeros}
use Rattle.notices.specs.declared.notices.Notice.{Notice}
use Rattle.event_hours.specs.Hours.{hours_mask, own_hours}

-- whether some bits are just those of the hours s to e-1 of a day (rule 2.15)
unfoldable pub is_run : ℕ → ℕ → ℕ → Bool
is_run bits s e = not (ltb 24 e) && eqb bits (hours_mask s e)

-- the event of some bits of a day, one of no hours where they are no run (rule 2.15)
unfoldable pub event_of : ℕ → ℕ → Notice
event_of day bits =
    let s = count_trailing_zeros 32 bits in
    let e = count_trailing_zeros 32 bits + ones bits in
    record { day = day; start = s; end = cond (is_run bits s e) e s }

-- the mask of a day, none past the last that a book can have
unfoldable pub mask_on : List ℕ → ℕ → ℕ
mask_on masks d = cond (leb 152 d) 0 (get_or masks d 0)

-- the event that the masks hold on the day and in the band of a notice (rule 2.15)
unfoldable pub event_on : List ℕ → Notice → Notice
event_on masks n = event_of n.day (own_hours (mask_on masks n.day) n.start)
