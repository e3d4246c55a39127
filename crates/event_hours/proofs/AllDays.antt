-- The masks of any list: they are 152, and each has 24 bits.
-- The invariant, by recursion on the notices: so are the masks of the first k notices.
-- Assumes nothing.
use Prim.Native.Nat.{ℕ, zero, suc, ◌^◌, ◌<◌}
use mathlib.Core.Bool.{Bool, true, false, cond}
use mathlib.Core.List.{List}
use mathlib.Core.Logic.{◌⊎◌, inl, inr, ⊎_elim}
use mathlib.Core.Path.{◌≡◌, refl, sym, ◌∙◌}
use native.Mathlib.Omega.{arith}
use lib.Bits.{bit_or, or_lt}
use lib.Dec.{eqb}
use lib.ListN.{length, get_or, set, replicate, length-set, length-replicate}
use lib.Seq.{get_or-set_same, get_or-set_other}
use borrow.Author.Tests.{eqb-true, eqb-false}
use Rattle.notices.specs.Notices.{count_of, notice_at}
use Rattle.notices.specs.declared.notices.Notice.{Notice}
use Rattle.event_hours.specs.Days.{marks_none, hours_in, with_hours, masks_to, masks_of, day_mask}
use Rattle.event_hours.proofs.DayLaws.{Marks, marks, marks_some, with_none, with_some}
use Rattle.event_hours.proofs.HoursMask.{mask_small}

-- one notice more: day d's mask is kept, or the notice is on that day and its hours are added

abbrev pub Kept : List ℕ → Notice → ℕ → Type 0
Kept masks n d = get_or (with_hours masks n) d 0 ≡ get_or masks d 0

pub record Added (masks : List ℕ) (n : Notice) (d : ℕ) : Type 0 where
  pub marking : Marks n
  pub day_is : n.day ≡ d
  pub mask_is : get_or (with_hours masks n) d 0 ≡ bit_or (get_or masks d 0) (hours_in n)

module _ (masks : List ℕ) (n : Notice) where
  length_with : length (with_hours masks n) ≡ length masks
  unfolding with_hours
  length_with = by (marks_none n)
    where
      by : (b : Bool) → length (cond b masks (set masks n.day (bit_or (get_or masks n.day 0) (hours_in n)))) ≡ length masks
      by true = refl
      by false = simp length-set

  module _ (long : length masks ≡ 152) (d : ℕ) where
    pub added : Marks n → n.day ≡ d → Added masks n d
    added m e =
        record {
          marking = m;
          day_is = e;
          mask_is =
              rw (← e, ← with_some masks n (hours_in n) (marks_some n m) refl)
              (get_or-set_same masks n.day (bit_or (get_or masks n.day 0) (hours_in n)) 0 (omega (arith, m.in_book)));
        }

    pub kept_or_added : Kept masks n d ⊎ Added masks n d
    kept_or_added = by (marks_none n) refl (eqb d n.day) refl
      where
        by : (b : Bool) → marks_none n ≡ b → (t : Bool) → eqb d n.day ≡ t → Kept masks n d ⊎ Added masks n d
        by true e t q = inl (rw (← with_none masks n e))
        by false e true q = inr (added (marks n e) (sym (eqb-true _ _ q)))
        by false e false q =
            inl (rw (← with_some masks n (hours_in n) e refl) (get_or-set_other masks n.day d (bit_or (get_or masks n.day 0) (hours_in n)) 0 (eqb-false _ _ q)))

module _ (l : List ℕ) where
  pub length_to : (k : ℕ) → length (masks_to l k) ≡ 152
  unfolding masks_to
  length_to zero = length-replicate {A = ℕ} 152 0
  length_to (suc k) = length_with (masks_to l k) (notice_at l k) ∙ length_to k

  -- rule 2.14: a mask for each of 152 days
  pub length_masks : length (masks_of l) ≡ 152
  unfolding masks_of
  length_masks = length_to (count_of l)

-- rule 2.14: no hour before the first notice
pub zero_at : (n d : ℕ) → ◌≡◌ {A = ℕ} (get_or (replicate n 0) d 0) 0
zero_at zero d = refl
zero_at (suc n) zero = refl
zero_at (suc n) (suc d) = zero_at n d

module _ (l : List ℕ) (d : ℕ) where
  small_to : (k : ℕ) → get_or (masks_to l k) d 0 < 2 ^ 24
  unfolding masks_to
  small_to zero = rw (zero_at 152 d) (omega arith)
  small_to (suc k) =
      ⊎_elim
      (λ (e : Kept (masks_to l k) (notice_at l k) d). rw e (small_to k))
      (λ (a : Added (masks_to l k) (notice_at l k) d). rw a.mask_is (or_lt 24 _ _ (small_to k) (mask_small _ _ a.marking.in_day)))
      (kept_or_added (masks_to l k) (notice_at l k) (length_to l k) d)

  -- rule 2.13: no bit past the day's last hour
  pub masks_small : day_mask l d < 2 ^ 24
  unfolding masks_of
  masks_small = small_to (count_of l)
