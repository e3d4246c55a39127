-- When a day serves, and how the search that passes over the days that carry an event comes to the reference days: a day that carries an
-- event serves no other, so that the same days are found.
-- Assumes nothing.
use Prim.Native.Nat.{ℕ, zero, suc, ◌+◌, ◌-◌, ◌≤◌, ◌<◌}
use mathlib.Core.Bool.{Bool, true, false, not, cond, ◌&&◌, beq}
use mathlib.Core.List.{List, [], ◌∷◌, ◌++◌}
use mathlib.Core.Path.{◌≡◌, refl, ap, ◌∙◌}
use native.Mathlib.Omega.{arith}
use lib.Dec.{eqb}
use lib.ListN.{length, get_or, take, set, length-append, length-replicate}
use borrow.Author.Tests.{eq-eqb, ne_eqb}
use Rattle.std.proofs.lemmas.List.{take_more_set}
use Rattle.std.specs.Option.{option_eq}
use Rattle.std.specs.Prelude.{Option, Some}
use Rattle.calendar.specs.Excluded.{excluded}
use Rattle.calendar.specs.Weekdays.{weekend}
use Rattle.calendar.specs.declared.answers.Kind.{Kind}
use Rattle.calendar.specs.declared.answers.Winter.{Winter}
use Rattle.references.specs.ReferenceDays.{free_in, has_each, serves, before, reference_days, refs_of}
use Rattle.references.specs.Search.{past_events, lacking_day, free_serves, BookDay, OnDay}
use Rattle.references.specs.WarmUp.{warm_up}
use Rattle.references.specs.declared.search.Refs.{Refs}
use Rattle.references.proofs.LackingDay.{has_warm_up}
use Rattle.references.proofs.PastEvents.{past_free, past_le, onward_here, onward_next, onward_none}
use Rattle.references.proofs.SearchLaws.{Search, before_no, search_start, search_took, search_passed, held_more}

-- a day is free exactly where its mask is 0
pub zero_free : (masks : List ℕ) (d : ℕ) → get_or masks d 0 ≡ 0 → free_in masks d ≡ true
unfolding free_in
zero_free masks d e = eq-eqb (get_or masks d 0) 0 e

pub nonzero_event : (masks : List ℕ) (d : ℕ) → (get_or masks d 0 ≡ 0 → ⊥) → free_in masks d ≡ false
unfolding free_in
nonzero_event masks d e = ne_eqb (get_or masks d 0) 0 e

pub ruleset past_laws = (onward_here, onward_next, onward_none, zero_free, nonzero_event)

module _ (w : Winter) (free : ℕ → Bool) (day s : ℕ) where
  has_event : (d : ℕ) → free d ≡ false → serves w free day s d ≡ false
  unfolding serves
  has_event d t = rw t (and_false (beq (weekend w d) (weekend w day)))
    where
      and_false : (b : Bool) → (b && false && not (excluded w d) && has_each w d (warm_up w day s)) ≡ false
      and_false true = refl
      and_false false = refl

  -- a free day before the event's goes by the one day that lacks a warm-up hour
  pub free_day : BookDay w day → (d : ℕ) → d < day → free d ≡ true → free_serves w (weekend w day) (lacking_day w day s) d ≡ serves w free day s d
  unfolding serves free_serves
  free_day book_day d earlier t =
      rw (t, has_warm_up w day s d book_day earlier) (and_true (beq (weekend w d) (weekend w day)))
    where
      and_true : (b : Bool)
          → (b && not (excluded w d) && not (option_eq eqb (lacking_day w day s) (Some d)))
          ≡ (b && true && not (excluded w d) && not (option_eq eqb (lacking_day w day s) (Some d)))
      and_true true = refl
      and_true false = refl

  -- as the search tests it
  pub tested : {event : Kind} {lacking : Option ℕ} {b : Bool} → OnDay w day event → lacking ≡ lacking_day w day s → (d : ℕ) → d < day → free d ≡ true
      → b ≡ free_serves w event.weekend lacking d → b ≡ serves w free day s d
  tested on_day is d earlier t e = rw (is, on_day.week) at e ∙ free_day on_day.day d earlier t

  before_past : (d : ℕ) → before (serves w free day s) d ≡ before (serves w free day s) (past_events free d)
  unfolding past_events
  before_past zero = refl
  before_past (suc d) = by (free d) refl (before_past d)
    where
      by : (b : Bool) → free d ≡ b → before (serves w free day s) d ≡ before (serves w free day s) (past_events free d)
          → before (serves w free day s) (suc d) ≡ before (serves w free day s) (cond b (suc d) (past_events free d))
      by true t rest = refl
      by false t rest = before_no (serves w free day s) d (has_event d t) ∙ rest

  -- where the search for the reference days stands: past the days right before d that carry an event
  pub record Walk (found : List ℕ) (d : ℕ) : Type 0 where
    pub within : d ≤ day
    pub search : Search (serves w free day s) (reference_days w free day s) found d
    pub next_free : 0 < d → free (d - 1) ≡ true

  -- on from d, to which the search has come
  pub walk_on : (found : List ℕ) (d : ℕ) → d ≤ day → Search (serves w free day s) (reference_days w free day s) found d
      → Walk found (past_events free d)
  walk_on found d h at = record {
    within = omega (arith, past_le free d);
    search = record { room = at.room; rest = rw (before_past d) at at.rest };
    next_free = past_free free d;
  }

  pub walk_start : Walk [] (past_events free day)
  unfolding reference_days
  walk_start = walk_on [] day (omega arith) (search_start (serves w free day s) day)

  -- where the code stands, which holds what is found as the call gives it
  pub record Stand (days : List ℕ) (count d : ℕ) : Type 0 where
    pub held : ◌≡◌ {A = Refs} (record { days = days; count = count }) (refs_of (take count days))
    pub walk : Walk (take count days) d

  -- a turn at day d, the one before n: it is taken, or is passed over
  module _ (days : List ℕ) (count n d : ℕ) (next : n ≡ suc d) (stand : Stand days count n) where
    abbrev found : List ℕ
    found = take count days

    pub walk_took : count < 5 → serves w free day s d ≡ true → Stand (set days count d) (count + 1) (past_events free d)
    walk_took room t =
        let counted : count ≡ length found = ap (λ (r : Refs). r.count) stand.held in
        let days_are : days ≡ (refs_of found).days = ap (λ (r : Refs). r.days) stand.held in
        let long : length days ≡ 5 = ap length days_are ∙ simp (length-append, length-replicate) (omega arith) in
        let more : take (count + 1) (set days count d) ≡ found ++ d ∷ [] = take_more_set days count d (omega arith) in
        let stored : set days count d ≡ (refs_of (found ++ d ∷ [])).days =
        ap (λ (ds : List ℕ). set ds count d) days_are ∙ held_more found d count counted room in
        let longer : count + 1 ≡ length (found ++ d ∷ []) = omega (arith, length-append found (d ∷ [])) in
        record {
          held = rw (more, stored, longer) refl;
          walk = walk_on _ d (omega (arith, stand.walk.within)) (search_took _ _ found n d next stand.walk.search (omega arith) t _ more);
        }

    pub walk_passed : serves w free day s d ≡ false → Stand days count (past_events free d)
    walk_passed t = record {
      held = stand.held;
      walk = walk_on found d (omega (arith, stand.walk.within)) (search_passed _ _ found n d next stand.walk.search t);
    }
