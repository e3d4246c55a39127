-- A day's event hours as bits: rule 2.13.
-- Assumes nothing.
use Rattle.std.specs.Prelude.{ℕ, ◌-◌, ◌/◌, ◌%◌, ◌^◌, cond, ltb}
use Rattle.std.specs.Int.Bits.{bit_and}
use Rattle.notices.specs.Profiles.{credit}

-- bit h of a mask (rule 2.13)
abbrev pub bit_at : ℕ → ℕ → ℕ
bit_at mask h = mask / 2 ^ h % 2

-- rules 2.10 and 2.13: the bits of the hours from s up to e
unfoldable pub hours_mask : ℕ → ℕ → ℕ
hours_mask s e = 2 ^ e - 2 ^ s

-- the hours of the band of an event that starts at hour s: the morning's up to where the evening's start, or the evening's; by the bands of
-- the winter credit, in which those of every profile lie (rule 2.15)
unfoldable pub band_mask : ℕ → ℕ
band_mask s =
    cond (ltb s credit.evening.start)
    (hours_mask credit.morning.start credit.evening.start)
    (hours_mask credit.evening.start credit.evening.end)

-- of a day's event hours, those of the event that starts at hour s
unfoldable pub own_hours : ℕ → ℕ → ℕ
own_hours mask s = bit_and mask (band_mask s)
