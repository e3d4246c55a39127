-- When a day serves, part by part; and that five reference days are always found from December on where no day of November carries an event,
-- none of them in its first week: November has no excluded day, every hour of each day, and behind its first week enough weekend days and
-- weekdays.
-- Assumes nothing.
use Prim.Native.Nat.{ℕ, ◌+◌, ◌-◌, ◌≤◌, ◌<◌}
use mathlib.Core.Bool.{Bool, true, false, not, beq, ◌&&◌}
use mathlib.Core.List.{List}
use mathlib.Core.Path.{◌≡◌, refl, ◌∙◌}
use native.Mathlib.Nat.{le_trans}
use native.Mathlib.Omega.{arith}
use lib.ListN.{length, get_or}
use borrow.Author.Tests.{eqb-true, not-true}
use Rattle.calendar.proofs.ClockLaws.{forward_sunday}
use Rattle.calendar.proofs.Promise.{facts_right, days_few, november_open, november_weekends, november_weekdays}
use Rattle.calendar.specs.Clocks.{clocks_forward}
use Rattle.calendar.specs.Excluded.{excluded}
use Rattle.calendar.specs.Weekdays.{weekend}
use Rattle.calendar.specs.WinterOf.{winter_of}
use Rattle.calendar.specs.declared.answers.Winter.{Winter}
use Rattle.laws.proofs.Below.{how_many, as_many}
use Rattle.laws.proofs.Every.{Every}
use Rattle.laws.proofs.Guards.{both, same_bits}
use Rattle.references.specs.ReferenceDays.{free_in, has_each, serves, reference_days}
use Rattle.references.specs.WarmUp.{warm_up}
use Rattle.references.proofs.LackingDay.{HasHours, each_had, had_each, has_all}
use Rattle.references.proofs.LateDays.{more_days, five_long, five_past}

-- a day that is free by some masks has the mask 0
pub free_zero : (masks : List ℕ) (d : ℕ) → free_in masks d ≡ true → get_or masks d 0 ≡ 0
unfolding free_in
free_zero masks d e = eqb-true (get_or masks d 0) 0 e

-- why a day serves for an event on another
pub record ServesFor (w : Winter) (free : ℕ → Bool) (day s d : ℕ) : Type 0 where
  pub same_kind : weekend w d ≡ weekend w day
  pub free_day : free d ≡ true
  pub open_day : excluded w d ≡ false
  pub has_hours : HasHours w d (warm_up w day s)

module _ (w : Winter) (free : ℕ → Bool) (day s : ℕ) where
  abbrev of_kind : ℕ → Bool
  of_kind d = beq (weekend w d) (weekend w day)

  pub why_serves : (d : ℕ) → serves w free day s d ≡ true → ServesFor w free day s d
  unfolding serves
  why_serves d e =
      let all = both (of_kind d && free d && not (excluded w d)) (has_each w d (warm_up w day s)) e in
      let outer = both (of_kind d && free d) (not (excluded w d)) all.0 in
      let inner = both (of_kind d) (free d) outer.0 in
      record {
        same_kind = (same_bits (weekend w d) (weekend w day)).0 inner.0;
        free_day = inner.1;
        open_day = not-true (excluded w d) outer.1;
        has_hours = each_had w d (warm_up w day s) all.1;
      }

  pub serves_so : (d : ℕ) → ServesFor w free day s d → serves w free day s d ≡ true
  unfolding serves
  serves_so d t = rw ((same_bits (weekend w d) (weekend w day)).1 t.same_kind, t.free_day, t.open_day, had_each w d (warm_up w day s) t.has_hours)

  -- a day of November goes by its kind alone
  by_kind : (d : ℕ) → free d ≡ true → excluded w d ≡ false → has_each w d (warm_up w day s) ≡ true → serves w free day s d ≡ of_kind d
  unfolding serves
  by_kind d f o h = rw (f, o, h) (alone (of_kind d))
    where
      alone : (b : Bool) → (b && true && true && true) ≡ b
      alone true = refl
      alone false = refl

with_true : (b : Bool) → beq b true ≡ b
with_true true = refl
with_true false = refl

with_false : (b : Bool) → beq b false ≡ not b
with_false true = refl
with_false false = refl

module _ (y : ℕ) (free : ℕ → Bool) (day s : ℕ) (quiet : (d : ℕ) → d < 30 → free d ≡ true) where
  abbrev w : Winter
  w = winter_of y

  abbrev ok : ℕ → Bool
  ok = serves w free day s

  -- the Sunday the clocks go forward is later
  not_forward : (d : ℕ) → d < 30 → d ≡ clocks_forward w → ⊥
  not_forward d h e = omega (arith, (forward_sunday w (facts_right y)).not_before, days_few w (facts_right y))

  kind_alone : (d : ℕ) → d < 30 → ok d ≡ of_kind w free day s d
  kind_alone d h = by_kind w free day s d (quiet d h) (november_open y d h) (has_all w d (warm_up w day s) (not_forward d h))

  in_november : (kind : Bool) → weekend w day ≡ kind → 5 ≤ how_many (λ i. ok (7 + i)) 23
  in_november true e =
      as_many (λ i. ok (7 + i)) (λ i. weekend w (7 + i)) 23 5 (λ i h. kind_alone (7 + i) (omega arith) ∙ rw e (with_true (weekend w (7 + i))))
      (le_trans (omega arith) (november_weekends y))
  in_november false e =
      as_many (λ i. ok (7 + i)) (λ i. not (weekend w (7 + i))) 23 5
      (λ i h. kind_alone (7 + i) (omega arith) ∙ rw e (with_false (weekend w (7 + i))))
      (le_trans (omega arith) (november_weekdays y))

  module _ (later : 30 ≤ day) where
    from_seven : 7 + (day - 7) ≡ day
    from_seven = omega arith

    enough : 5 ≤ how_many (λ i. ok (7 + i)) (day - 7)
    enough = le_trans (in_november (weekend w day) refl) (more_days (λ i. ok (7 + i)) 23 (day - 7) (omega arith))

    pub five_found : length (reference_days w free day s) ≡ 5
    unfolding reference_days
    five_found = rw from_seven at (five_long ok 7 (day - 7) enough)

    -- the first week of November is not come to
    pub first_week_unread : Every (λ (d : ℕ). 7 ≤ d) (reference_days w free day s)
    unfolding reference_days
    first_week_unread = rw from_seven at (five_past ok 7 (day - 7) enough)
