-- Which bits are set: bit h of day d's mask is 1 exactly where a notice of the list is on day d and covers hour h.
-- The invariant, by recursion on the notices: so it is of the masks of the first k notices.
-- Assumes nothing.
use Prim.Native.Nat.{ℕ, zero, suc, ◌≤◌, ◌<◌}
use mathlib.Core.List.{List}
use mathlib.Core.Logic.{◌⊎◌, inl, inr, ⊎_elim, ◌↔◌}
use mathlib.Core.Path.{◌≡◌}
use native.Mathlib.Nat.{eq-or-lt_of_le}
use native.Mathlib.Omega.{arith}
use lib.ListN.{length, get_or}
use Rattle.dates.proofs.Promise.{days_range}
use Rattle.notices.proofs.HourLaws.{Inside}
use Rattle.notices.specs.Notices.{count_of, notice_at}
use Rattle.notices.specs.declared.notices.Notice.{Notice}
use Rattle.notices.specs.declared.profiles.Figures.{Figures}
use Rattle.schedule.proofs.Standing.{Standing}
use Rattle.event_hours.specs.Days.{hours_in, with_hours, masks_to, masks_of, day_mask}
use Rattle.event_hours.specs.Hours.{bit_at}
use Rattle.event_hours.proofs.AllDays.{Kept, Added, added, kept_or_added, length_to, zero_at}
use Rattle.event_hours.proofs.Bits.{bit_zero, or_either, or_left, or_right}
use Rattle.event_hours.proofs.DayLaws.{Marks}
use Rattle.event_hours.proofs.HoursMask.{hours_bit}

-- a notice is on day d and covers hour h (rule 2.10)
pub record CoversHour (n : Notice) (d h : ℕ) : Type 0 where
  pub day_is : n.day ≡ d
  pub from : n.start ≤ h
  pub to : h < n.end

-- one of the first k notices of a list does
pub record Covers (l : List ℕ) (k d h : ℕ) : Type 0 where
  pub which : ℕ
  pub among : which < k
  pub covers : CoversHour (notice_at l which) d h

-- one notice more: a bit that is set was set before or is one of the notice's, and either sets it

module _ (masks : List ℕ) (n : Notice) (d h : ℕ) (long : length masks ≡ 152) where
  old_or_new : bit_at (get_or (with_hours masks n) d 0) h ≡ 1 → (bit_at (get_or masks d 0) h ≡ 1) ⊎ CoversHour n d h
  old_or_new e =
      ⊎_elim (λ (q : Kept masks n d). inl (rw q at e)) (λ (a : Added masks n d). by a (or_either (get_or masks d 0) (hours_in n) h (rw a.mask_is at e)))
      (kept_or_added masks n long d)
    where
      by : Added masks n d → (bit_at (get_or masks d 0) h ≡ 1) ⊎ (bit_at (hours_in n) h ≡ 1) → (bit_at (get_or masks d 0) h ≡ 1) ⊎ CoversHour n d h
      by a (inl o) = inl o
      by a (inr o) = let b = (hours_bit n.start n.end h).0 o in inr (record { day_is = a.day_is; from = b.0; to = b.1 })

  old_bit : bit_at (get_or masks d 0) h ≡ 1 → bit_at (get_or (with_hours masks n) d 0) h ≡ 1
  old_bit o =
      ⊎_elim (λ (q : Kept masks n d). rw q o) (λ (a : Added masks n d). rw a.mask_is (or_left (get_or masks d 0) (hours_in n) h o))
      (kept_or_added masks n long d)

  new_bit : Marks n → CoversHour n d h → bit_at (get_or (with_hours masks n) d 0) h ≡ 1
  new_bit m c =
      let a = added masks n long d m c.day_is in
      rw a.mask_is (or_right (get_or masks d 0) (hours_in n) h ((hours_bit _ _ h).1 (c.from, c.to)))

module _ (l : List ℕ) (d h : ℕ) where
  covered : (k : ℕ) → bit_at (get_or (masks_to l k) d 0) h ≡ 1 → Covers l k d h
  unfolding masks_to
  covered zero e = absurd (omega (arith, bit_zero h, rw (zero_at 152 d) at e))
  covered (suc k) e =
      ⊎_elim (λ o. let v = covered k o in record { which = v.which; among = omega (arith, v.among); covers = v.covers })
      (λ c. record { which = k; among = omega arith; covers = c })
      (old_or_new (masks_to l k) (notice_at l k) d h (length_to l k) e)

  marked : (k : ℕ) → ((j : ℕ) → j < k → Marks (notice_at l j)) → Covers l k d h → bit_at (get_or (masks_to l k) d 0) h ≡ 1
  unfolding masks_to
  marked zero m v = absurd (omega (arith, v.among))
  marked (suc k) m v =
      ⊎_elim (λ (e : v.which ≡ k). new_bit (masks_to l k) (notice_at l k) d h (length_to l k) (m k (omega arith)) (rw e at v.covers))
      (λ (b : v.which < k). old_bit (masks_to l k) (notice_at l k) d h (length_to l k)
      (marked k (λ j c. m j (omega arith)) (record { which = v.which; among = b; covers = v.covers })))
      (eq-or-lt_of_le (omega (arith, v.among)))

-- a notice of an accepted list marks its hours
pub standing_marks : {w : ℕ} {f : Figures} {l : List ℕ} → Standing w f l → (k : ℕ) → k < count_of l → Marks (notice_at l k)
standing_marks {w} {f} {l} st k b =
    let s = st.each k b in
    let morning = st.bands.morning in
    let evening = st.bands.evening in
    record {
      in_book = omega (arith, s.in_book, days_range w);
      some_hour = s.some_hour;
      in_day = ⊎_elim (λ (i : Inside f.morning (notice_at l k)). omega arith) (λ (i : Inside f.evening (notice_at l k)). omega arith) s.in_band;
    }

module _ {w : ℕ} {f : Figures} {l : List ℕ} (st : Standing w f l) (d h : ℕ) where
  pub which_bits : (bit_at (day_mask l d) h ≡ 1) ↔ Covers l (count_of l) d h
  unfolding masks_of
  which_bits = (covered l d h (count_of l), marked l d h (count_of l) (standing_marks st))
