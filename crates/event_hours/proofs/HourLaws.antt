-- Laws of one day's hours: one for each way out of the choice of the band, and the bits of the bands.
-- Assumes nothing.
use Prim.Native.Nat.{ℕ, ◌≤◌, ◌<◌}
use mathlib.Core.Logic.{⊎_elim}
use mathlib.Core.Path.{◌≡◌}
use native.Mathlib.Omega.{arith}
use borrow.Author.Tests.{le-ltb, lt-ltb}
use Rattle.notices.proofs.HourLaws.{Inside, InBand}
use Rattle.notices.specs.Profiles.{credit}
use Rattle.notices.specs.Sane.{Banded}
use Rattle.notices.specs.declared.notices.Notice.{Notice}
use Rattle.notices.specs.declared.profiles.Figures.{Figures}
use Rattle.event_hours.specs.Hours.{bit_at, hours_mask, band_mask}
use Rattle.event_hours.proofs.HoursMask.{hours_bit}

-- where the morning's part of a day starts, where the evening's, and where that ends
abbrev pub morning : ℕ
morning = credit.morning.start

abbrev pub evening : ℕ
evening = credit.evening.start

abbrev pub night : ℕ
night = credit.evening.end

pub morning_band : (s : ℕ) → s < evening → band_mask s ≡ hours_mask morning evening
unfolding band_mask
morning_band s h = rw (lt-ltb s evening h)

pub evening_band : (s : ℕ) → evening ≤ s → band_mask s ≡ hours_mask evening night
unfolding band_mask
evening_band s h = rw (le-ltb s evening h)

-- the hours of the morning band come before the evening's
pub band_before : (s h : ℕ) → s < evening → bit_at (band_mask s) h ≡ 1 → h < evening
band_before s h b e = ((hours_bit morning evening h).0 (rw (morning_band s b) at e)).1

pub band_from : (s h : ℕ) → evening ≤ s → bit_at (band_mask s) h ≡ 1 → evening ≤ h
band_from s h b e = ((hours_bit evening night h).0 (rw (evening_band s b) at e)).0

-- an event that is inside one band has all its hours in the band of its start
pub in_own_band : (f : Figures) (n : Notice) (h : ℕ) → Banded f → InBand f n → n.start ≤ h → h < n.end → bit_at (band_mask n.start) h ≡ 1
in_own_band f n h ok b p q =
    let first = ok.morning in
    let second = ok.evening in
    ⊎_elim
    (λ (i : Inside f.morning n). rw (morning_band n.start (omega arith)) ((hours_bit morning evening h).1 (omega arith, omega arith)))
    (λ (i : Inside f.evening n). rw (evening_band n.start (omega arith)) ((hours_bit evening night h).1 (omega arith, omega arith)))
    b
