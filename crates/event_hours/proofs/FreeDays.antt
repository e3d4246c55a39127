-- Days without an event: a day's mask is 0 exactly where no notice of the list is on that day, and so it is on every day of November.
-- Assumes nothing.
use Prim.Native.Nat.{ℕ, ◌<◌}
use mathlib.Core.List.{List}
use mathlib.Core.Logic.{◌↔◌}
use mathlib.Core.Path.{◌≡◌}
use native.Mathlib.Omega.{arith}
use Rattle.notices.specs.Notices.{count_of, notice_at}
use Rattle.notices.specs.declared.profiles.Figures.{Figures}
use Rattle.schedule.proofs.Standing.{Standing}
use Rattle.event_hours.specs.Days.{day_mask}
use Rattle.event_hours.proofs.Bits.{bit_zero, same_bits}
use Rattle.event_hours.proofs.WhichBits.{Covers, which_bits}

-- no notice of the list is on day d
abbrev pub NoEvent : List ℕ → ℕ → Type 0
NoEvent l d = (k : ℕ) → k < count_of l → (notice_at l k).day ≡ d → ⊥

module _ {w : ℕ} {f : Figures} {l : List ℕ} (st : Standing w f l) (d : ℕ) where
  unmarked : day_mask l d ≡ 0 → NoEvent l d
  unmarked e k b q =
      let h = (notice_at l k).start in
      let v : Covers l (count_of l) d h = record { which = k; among = b; covers = record { day_is = q; from = omega arith; to = (st.each k b).some_hour } } in
      omega (arith, bit_zero h, rw e at ((which_bits st d h).1 v))

  unnoticed : NoEvent l d → day_mask l d ≡ 0
  unnoticed none =
      same_bits (day_mask l d) 0 (λ h e. let v = (which_bits st d h).0 e in absurd (none v.which v.among v.covers.day_is))
      (λ h e. absurd (omega (arith, bit_zero h)))

  pub mask_free : (day_mask l d ≡ 0) ↔ NoEvent l d
  mask_free = (unmarked, unnoticed)

  -- rule 1.10: the winter period has an end
  pub quiet : d < 30 → day_mask l d ≡ 0
  quiet h = unnoticed (λ k b e. omega (arith, (st.each k b).from_december))
