-- Demand 2: a list is accepted exactly when it keeps every rule of its profile. The rules as propositions, each the same as its test:
-- a notice by itself (10 to 14, 26, 27), a notice against the one before it (15, 16), and the hours of the winter together (18).
-- Assumes nothing.
use Prim.Native.Nat.{ℕ, ◌+◌, ◌-◌, ◌≤◌, ◌<◌}
use mathlib.Core.Bool.{Bool, true, false, not, beq, ◌&&◌, ◌||◌, false≢true}
use mathlib.Core.Logic.{◌⊎◌, inl, inr, ⊎_elim, ◌↔◌}
use mathlib.Core.Path.{◌≡◌, refl, sym, ◌∙◌}
use native.Mathlib.Nat.{eq-or-lt_of_le}
use native.Mathlib.Omega.{arith}
use lib.Dec.{ltb, eqb}
use borrow.Author.Tests.{ltb-false, eqb-true, eq-eqb, ne_eqb, le-ltb, not-true, not-false}
use Rattle.calendar.specs.WinterOf.{winter_of}
use Rattle.calendar.proofs.Promise.{period_day}
use Rattle.calendar.specs.Excluded.{excluded}
use Rattle.calendar.specs.Weekdays.{weekend}
use Rattle.dates.specs.Winters.{days}
use Rattle.calendar.specs.Days.{in_period}
use Rattle.laws.proofs.Guards.{both, neither, no_fault, same_bits}
use Rattle.notices.proofs.HourLaws.{InBand}
use Rattle.notices.specs.Notices.{hours_of}
use Rattle.notices.specs.declared.notices.Notice.{Notice}
use Rattle.notices.specs.declared.profiles.Figures.{Figures}
use Rattle.schedule.specs.Rules.{outside_period, on_excluded_day, barred_weekend, starts_before, same_band, over_limit}
use Rattle.schedule.specs.declared.rules.Sofar.{Sofar}

-- the rules

-- 10 to 14, 26, 27: a notice by itself
pub record Sound (w : ℕ) (f : Figures) (n : Notice) : Type 0 where
  pub period : (30 ≤ n.day) × (n.day < days w)
  pub open_day : excluded (winter_of w) n.day ≡ false
  pub week : f.weekends ≡ false → weekend (winter_of w) n.day ≡ false
  pub some_hour : n.start < n.end
  pub band : InBand f n
  pub long : (f.shortest ≤ n.end - n.start) × (n.end - n.start ≤ f.longest)

-- a later day, or the same day and no earlier than the end
abbrev pub InOrder : Notice → Notice → Type 0
InOrder last n = (last.day < n.day) ⊎ ((last.day ≡ n.day) × (last.end ≤ n.start))

-- the same day and band
pub record Alike (f : Figures) (event n : Notice) : Type 0 where
  pub same_day : event.day ≡ n.day
  pub same_band_lem : ltb event.start f.evening.start ≡ ltb n.start f.evening.start

-- 15 and 16: a notice against the one before it, which is the last event so far
pub record Follows (f : Figures) (last n : Notice) : Type 0 where
  pub order : InOrder last n
  pub apart : Alike f last n → ⊥

-- tests and what they say

unless : (a b : Bool) → (a && b) ≡ false → a ≡ true → b ≡ false
unless true b h e = h
unless false b h e = absurd (false≢true e)

unless_test : (a b : Bool) → (a ≡ true → b ≡ false) → (a && b) ≡ false
unless_test true b h = h refl
unless_test false b h = refl

not_so : (x : Bool) → (x ≡ true → ⊥) → x ≡ false
not_so true h = absurd (h refl)
not_so false h = refl

-- a notice by itself, rule by rule

module _ (w : ℕ) (f : Figures) (n : Notice) where
  pub period_iff : (outside_period (winter_of w) n ≡ false) ↔ ((30 ≤ n.day) × (n.day < days w))
  unfolding outside_period
  period_iff = (λ e. (period_day w n.day).0 (not-false (in_period (winter_of w) n.day) e), λ r. rw ((period_day w n.day).1 r))

  pub open_iff : (on_excluded_day (winter_of w) n ≡ false) ↔ (excluded (winter_of w) n.day ≡ false)
  unfolding on_excluded_day
  open_iff = (λ e. e, λ e. e)

  pub week_iff : (barred_weekend f (winter_of w) n ≡ false) ↔ (f.weekends ≡ false → weekend (winter_of w) n.day ≡ false)
  unfolding barred_weekend
  week_iff = (
    λ h (e : f.weekends ≡ false). unless (not f.weekends) (weekend (winter_of w) n.day) h (rw e),
    λ r. unless_test (not f.weekends) (weekend (winter_of w) n.day) (λ e. r (not-true f.weekends e)),
  )

-- a notice against the one before it, rule by rule

module _ (last n : Notice) where
  abbrev earlier : Bool
  earlier = ltb n.day last.day

  abbrev same_day : Bool
  same_day = eqb n.day last.day

  abbrev before_end : Bool
  before_end = ltb n.start last.end

  in_order : (earlier || (same_day && before_end)) ≡ false → InOrder last n
  in_order h =
      let p = neither earlier (same_day && before_end) h in
      ⊎_elim
      (λ (e : last.day ≡ n.day). inr (e, ltb-false n.start last.end (unless same_day before_end p.1 (eq-eqb n.day last.day (sym e)))))
      (λ (e : last.day < n.day). inl e)
      (eq-or-lt_of_le (ltb-false n.day last.day p.0))

  in_order_test : InOrder last n → (earlier || (same_day && before_end)) ≡ false
  in_order_test =
      ⊎_elim
      (λ (e : last.day < n.day). no_fault earlier (same_day && before_end) (le-ltb n.day last.day (omega arith))
      (rw (ne_eqb n.day last.day (λ (q : n.day ≡ last.day). omega arith))))
      (λ (e : (last.day ≡ n.day) × (last.end ≤ n.start)). no_fault earlier (same_day && before_end) (le-ltb n.day last.day (omega arith))
      (unless_test same_day before_end (λ q. le-ltb n.start last.end e.1)))

  pub order_iff : (starts_before last n ≡ false) ↔ InOrder last n
  unfolding starts_before
  order_iff = (in_order, in_order_test)

module _ (f : Figures) (event n : Notice) where
  abbrev before_evening : Notice → Bool
  before_evening m = ltb m.start f.evening.start

  alike_iff : (same_band f event n ≡ true) ↔ Alike f event n
  unfolding same_band
  alike_iff = (
    λ h. let p = both (eqb event.day n.day) (beq (before_evening event) (before_evening n)) h in
        record { same_day = eqb-true event.day n.day p.0; same_band_lem = (same_bits (before_evening event) (before_evening n)).0 p.1 },
    λ r. rw (eq-eqb event.day n.day r.same_day) ((same_bits (before_evening event) (before_evening n)).1 r.same_band_lem),
  )

  pub apart_iff : (same_band f event n ≡ false) ↔ (Alike f event n → ⊥)
  apart_iff = (
    λ h r. false≢true (sym h ∙ alike_iff.1 r),
    λ r. not_so (same_band f event n) (λ e. r (alike_iff.0 e)),
  )

-- the hours with this notice

pub limit_iff : (f : Figures) (so : Sofar) (n : Notice) → (over_limit f so n ≡ false) ↔ (so.hours + hours_of n ≤ f.hours)
unfolding over_limit
limit_iff f so n = (ltb-false f.hours (so.hours + hours_of n), le-ltb f.hours (so.hours + hours_of n))
