-- An event is read back from its day's mask: cut to the event's band, the mask is that of the event's hours, so that its count of ones is
-- the event's length and its count of trailing zeros the event's start. Of an accepted list at most one event is on a day and band.
-- Assumes nothing.
use Prim.Native.Nat.{ℕ, ◌+◌, ◌-◌, ◌<◌}
use mathlib.Core.List.{List}
use mathlib.Core.Logic.{⊎_elim}
use mathlib.Core.Path.{◌≡◌, refl, ◌∙◌, ap}
use native.Mathlib.Omega.{arith}
use lib.Count.{ones, count_trailing_zeros}
use borrow.Author.Tests.{eq-eqb, le-ltb, lt-leb}
use Rattle.notices.specs.Notices.{count_of, notice_at}
use Rattle.notices.specs.Profiles.{credit}
use Rattle.notices.specs.Sane.{PartOf}
use Rattle.notices.specs.declared.profiles.Figures.{Figures}
use Rattle.schedule.proofs.Standing.{OneDay, Standing}
use Rattle.event_hours.specs.Days.{hours_in, masks_of, day_mask, event_hours}
use Rattle.event_hours.specs.Events.{mask_on, is_run, event_of, event_on}
use Rattle.event_hours.specs.Hours.{bit_at, hours_mask, band_mask, own_hours}
use Rattle.event_hours.proofs.Bits.{BitsIn, and_both, same_bits}
use Rattle.event_hours.proofs.HourLaws.{band_before, band_from, in_own_band}
use Rattle.event_hours.proofs.HoursMask.{hours_bit, hours_ones, hours_zeros}
use Rattle.event_hours.proofs.WhichBits.{Covers, which_bits, standing_marks}

module _ {w : ℕ} {f : Figures} {l : List ℕ} (st : Standing w f l) (k : ℕ) (b : k < count_of l) where
  -- where the bands of the figures lie
  first : PartOf credit.morning f.morning
  first = st.bands.morning

  second : PartOf credit.evening f.evening
  second = st.bands.evening

  -- of the events on a notice's day, only the notice itself covers an hour of its band
  only_this : (h : ℕ) → bit_at (band_mask (notice_at l k).start) h ≡ 1 → (v : Covers l (count_of l) (notice_at l k).day h) → v.which ≡ k
  only_this h e v = omega (arith, not_earlier, not_later)
    where
      not_earlier : v.which < k → ⊥
      not_earlier p =
          ⊎_elim (λ (q : (notice_at l v.which).day < (notice_at l k).day). omega (arith, v.covers.day_is))
          (λ (q : OneDay f (notice_at l v.which) (notice_at l k)).
          omega (arith, v.covers.to, first.to, band_from (notice_at l k).start h (omega (arith, second.from, q.evening)) e))
          (st.later v.which k p b)

      not_later : k < v.which → ⊥
      not_later p =
          ⊎_elim (λ (q : (notice_at l k).day < (notice_at l v.which).day). omega (arith, v.covers.day_is))
          (λ (q : OneDay f (notice_at l k) (notice_at l v.which)).
          omega (arith, v.covers.from, second.from, band_before (notice_at l k).start h (omega (arith, first.to, (st.each k b).some_hour)) e))
          (st.later k v.which p v.among)

  cut_is_event : BitsIn (event_hours l k) (hours_in (notice_at l k))
  unfolding own_hours
  cut_is_event h e =
      let p = (and_both (day_mask l (notice_at l k).day) (band_mask (notice_at l k).start) h).0 e in
      let v = (which_bits st (notice_at l k).day h).0 p.0 in
      let q = only_this h p.1 v in
      (hours_bit (notice_at l k).start (notice_at l k).end h).1 (rw q at v.covers.from, rw q at v.covers.to)

  event_is_cut : BitsIn (hours_in (notice_at l k)) (event_hours l k)
  unfolding own_hours
  event_is_cut h e =
      let q = (hours_bit (notice_at l k).start (notice_at l k).end h).0 e in
      let v : Covers l (count_of l) (notice_at l k).day h = record { which = k; among = b; covers = record { day_is = refl; from = q.0; to = q.1 } } in
      (and_both (day_mask l (notice_at l k).day) (band_mask (notice_at l k).start) h).1
      ((which_bits st (notice_at l k).day h).1 v, in_own_band f (notice_at l k) h st.bands (st.each k b).in_band q.0 q.1)

  own_hours_back : event_hours l k ≡ hours_mask (notice_at l k).start (notice_at l k).end
  own_hours_back = same_bits (event_hours l k) (hours_in (notice_at l k)) cut_is_event event_is_cut

  -- its length
  length_back : ones (event_hours l k) ≡ (notice_at l k).end - (notice_at l k).start
  length_back = ap ones own_hours_back ∙ hours_ones _ _

  -- its start
  start_back : count_trailing_zeros 32 (event_hours l k) ≡ (notice_at l k).start
  start_back =
      let m = standing_marks st k b in
      ap (count_trailing_zeros 32) own_hours_back ∙ hours_zeros 32 _ _ m.some_hour (omega arith)

  -- and so the event that the masks hold there is the notice
  pub event_back : event_on (masks_of l) (notice_at l k) ≡ notice_at l k
  unfolding event_on event_of is_run mask_on
  event_back =
      let n = notice_at l k in
      let m = standing_marks st k b in
      let e : n.start + (n.end - n.start) ≡ n.end = omega arith in
      rw (
        lt-leb 152 n.day m.in_book,
        start_back,
        length_back,
        e,
        le-ltb 24 n.end (omega arith),
        eq-eqb (event_hours l k) (hours_mask n.start n.end) own_hours_back,
      )
