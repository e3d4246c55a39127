-- Every notice of a list passes its rows exactly when each is sound, each follows the one before it, and the hours together are within the
-- limit: rule by rule for a notice, and notice by notice for the list.
-- Assumes nothing.
use Prim.Native.Nat.{ℕ, zero, suc, ◌+◌, ◌≤◌, ◌<◌}
use mathlib.Core.List.{List}
use mathlib.Core.Logic.{inl}
use mathlib.Core.Path.{◌≡◌}
use native.Mathlib.Omega.{arith}
use Rattle.calendar.specs.WinterOf.{winter_of}
use Rattle.laws.proofs.Tables.{NoneBroken}
use Rattle.laws.proofs.Walks.{none_iff_each}
use Rattle.notices.proofs.HourLaws.{hours_iff, long_iff}
use Rattle.notices.proofs.NoticeLaws.{hours_none, hours_next, hours_grow}
use Rattle.notices.specs.Notices.{count_of, no_notice, notice_at, hours_of, hours_to}
use Rattle.notices.specs.declared.notices.Notice.{Notice}
use Rattle.notices.specs.declared.profiles.Figures.{Figures}
use Rattle.schedule.specs.ListCheck.{sofar_at, rows_at, notices_table}
use Rattle.schedule.specs.declared.rules.Sofar.{Sofar}
use Rattle.schedule.proofs.Lawful.{Sound, Alike, Follows, period_iff, open_iff, week_iff, order_iff, apart_iff, limit_iff}
use Rattle.schedule.proofs.NoticeRows.{Passed, none_passed, passed_none}
use Rattle.schedule.proofs.Walk.{sofar_none, sofar_hours, sofar_event}

-- what a notice has passed, and what it keeps

module _ (w : ℕ) (f : Figures) (so : Sofar) (n : Notice) where
  pub passed_sound : Passed (winter_of w) f so n → Sound w f n
  passed_sound t =
      record {
        period = (period_iff w f n).0 t.period;
        open_day = (open_iff w f n).0 t.open_day;
        week = (week_iff w f n).0 t.week;
        some_hour = ((hours_iff f n).0 t.hours).0;
        band = ((hours_iff f n).0 t.hours).1;
        long = (long_iff f n).0 t.long;
      }

  passed_follows : Passed (winter_of w) f so n → Follows f so.event n
  passed_follows t = record { order = (order_iff so.event n).0 t.order; apart = (apart_iff f so.event n).0 t.apart }

  sound_passed : Sound w f n → Follows f so.event n → so.hours + hours_of n ≤ f.hours → Passed (winter_of w) f so n
  sound_passed s o h =
      record {
        period = (period_iff w f n).1 s.period;
        open_day = (open_iff w f n).1 s.open_day;
        week = (week_iff w f n).1 s.week;
        hours = (hours_iff f n).1 (s.some_hour, s.band);
        long = (long_iff f n).1 s.long;
        order = (order_iff so.event n).1 o.order;
        apart = (apart_iff f so.event n).1 o.apart;
        limit = (limit_iff f so n).1 h;
      }

-- no notice stands before the first: it is earlier, and on another day
first_follows : (w : ℕ) (f : Figures) (n : Notice) → Sound w f n → Follows f no_notice n
first_follows w f n s =
    let p = s.period in
    record { order = inl (omega arith); apart = λ (r : Alike f no_notice n). let e : 0 ≡ n.day = r.same_day in omega arith }

module _ (w : ℕ) (f : Figures) (l : List ℕ) where
  abbrev pub AllPassed : ℕ → Type 0
  AllPassed n = (k : ℕ) → k < n → Passed (winter_of w) f (sofar_at l k) (notice_at l k)

  hours_at_lem : (k : ℕ) → Passed (winter_of w) f (sofar_at l k) (notice_at l k) → hours_to l (suc k) ≤ f.hours
  hours_at_lem k t = rw (hours_next l k, ← sofar_hours l k) ((limit_iff f (sofar_at l k) (notice_at l k)).0 t.limit)

  pub all_hours : (n : ℕ) → AllPassed n → hours_to l n ≤ f.hours
  all_hours zero t = omega (arith, hours_none l)
  all_hours (suc n) t = hours_at_lem n (t n (omega arith))

  pub follows_at : (k : ℕ) → Passed (winter_of w) f (sofar_at l (suc k)) (notice_at l (suc k)) → Follows f (notice_at l k) (notice_at l (suc k))
  follows_at k t = rw (← sofar_event l k) (passed_follows w f (sofar_at l (suc k)) (notice_at l (suc k)) t)

  -- the hours with the notice at index k are within the limit where those of all n notices are
  hours_before : (n k : ℕ) → k < n → hours_to l n ≤ f.hours → (sofar_at l k).hours + hours_of (notice_at l k) ≤ f.hours
  hours_before n k h hours = rw (sofar_hours l k) (omega (arith, hours_next l k, hours_grow l n (suc k) h))

  pub passed_at : (n : ℕ) → ((k : ℕ) → k < n → Sound w f (notice_at l k)) → ((k : ℕ) → suc k < n → Follows f (notice_at l k) (notice_at l (suc k)))
      → hours_to l n ≤ f.hours → AllPassed n
  passed_at n each follows hours zero h =
      sound_passed w f (sofar_at l zero) (notice_at l zero) (each zero h) (rw (sofar_none l) (first_follows w f (notice_at l zero) (each zero h)))
      (hours_before n zero h hours)
  passed_at n each follows hours (suc k) h =
      sound_passed w f (sofar_at l (suc k)) (notice_at l (suc k)) (each (suc k) h) (rw (sofar_event l k) (follows k h)) (hours_before n (suc k) h hours)

-- no row of the notices is broken exactly when every notice passes

module _ (w : ℕ) (f : Figures) (l : List ℕ) where
  pub all_passed : NoneBroken (notices_table (winter_of w) f l) → AllPassed w f l (count_of l)
  unfolding rows_at
  all_passed t k h = none_passed (winter_of w) f (sofar_at l k) (notice_at l k) k ((none_iff_each (rows_at (winter_of w) f l) (count_of l)).0 t k h)

  pub passed_all : AllPassed w f l (count_of l) → NoneBroken (notices_table (winter_of w) f l)
  unfolding rows_at
  passed_all t =
      (none_iff_each (rows_at (winter_of w) f l) (count_of l)).1 (λ k h. passed_none (winter_of w) f (sofar_at l k) (notice_at l k) k (t k h))
