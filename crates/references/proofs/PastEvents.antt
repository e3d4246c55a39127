-- The walk backwards over days that carry an event, over any test of which are free: where it stops, one law for each way out and for a turn.
-- Assumes nothing.
use Prim.Native.Nat.{ℕ, zero, suc, ◌-◌, ◌≤◌, ◌<◌}
use mathlib.Core.Bool.{Bool, true, false, cond}
use mathlib.Core.Path.{◌≡◌, refl, ◌∙◌}
use native.Mathlib.Omega.{arith}
use Rattle.references.specs.Search.{past_events}

module _ (free : ℕ → Bool) where
  past_here : (d : ℕ) → 0 < d → free (d - 1) ≡ true → d ≡ past_events free d
  unfolding past_events
  past_here zero h t = absurd (omega arith)
  past_here (suc d) h t = let e : suc d - 1 ≡ d = omega arith in rw (rw e at t)

  past_next : (d : ℕ) → 0 < d → free (d - 1) ≡ false → past_events free (d - 1) ≡ past_events free d
  unfolding past_events
  past_next zero h t = absurd (omega arith)
  past_next (suc d) h t = let e : suc d - 1 ≡ d = omega arith in rw (e, rw e at t)

  past_none : (d : ℕ) → d ≤ 0 → 0 ≡ past_events free d
  unfolding past_events
  past_none zero h = refl
  past_none (suc d) h = absurd (omega arith)

  -- the walk from a day has come to d, from where on it comes to the same day
  pub record Onward (day d : ℕ) : Type 0 where
    pub within : d ≤ day
    pub same : past_events free d ≡ past_events free day

  module _ (day d : ℕ) (on : Onward day d) where
    pub onward_here : 0 < d → free (d - 1) ≡ true → d ≡ past_events free day
    onward_here h t = past_here d h t ∙ on.same

    pub onward_none : d ≤ 0 → 0 ≡ past_events free day
    onward_none h = past_none d h ∙ on.same

    pub onward_next : 0 < d → free (d - 1) ≡ false → Onward day (d - 1)
    onward_next h t = record { within = omega (arith, on.within); same = past_next d h t ∙ on.same }

  -- it stops right after a free day, and never past the day it starts from
  pub past_free : (d : ℕ) → 0 < past_events free d → free (past_events free d - 1) ≡ true
  unfolding past_events
  past_free zero h = absurd (omega arith)
  past_free (suc d) h = by (free d) refl (past_free d) h
    where
      by : (b : Bool) → free d ≡ b → (0 < past_events free d → free (past_events free d - 1) ≡ true)
          → 0 < cond b (suc d) (past_events free d) → free (cond b (suc d) (past_events free d) - 1) ≡ true
      by true t rest h = let e : suc d - 1 ≡ d = omega arith in rw e t
      by false t rest h = rest h

  pub past_le : (d : ℕ) → past_events free d ≤ d
  unfolding past_events
  past_le zero = omega arith
  past_le (suc d) = by (free d) (past_le d)
    where
      by : (b : Bool) → past_events free d ≤ d → cond b (suc d) (past_events free d) ≤ suc d
      by true h = omega arith
      by false h = omega arith
