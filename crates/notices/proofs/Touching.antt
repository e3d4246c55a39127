-- A notice touches a band exactly when some hour is an hour of both; that is so exactly when each of their two starts is before each of their
-- two ends, which is what the code compares. The hour is then the later of the starts.
-- Assumes nothing.
use Prim.Native.Nat.{ℕ, max, ◌≤◌, ◌<◌}
use mathlib.Core.Bool.{Bool, true, ◌&&◌}
use mathlib.Core.Logic.{◌↔◌}
use mathlib.Core.Path.{◌≡◌}
use mathlib.Mathlib.Data.Bool.Basic.{and_intro}
use native.Mathlib.Omega.{arith}
use lib.Dec.{leb, ltb}
use borrow.Author.Tests.{ltb-true, leb-true, lt-ltb, le-leb}
use Rattle.laws.proofs.Guards.{both, same_test}
use Rattle.laws.proofs.SomeBelow.{some_iff}
use Rattle.notices.specs.Hours.{is_hour, touches}
use Rattle.notices.specs.declared.notices.Notice.{Notice}
use Rattle.notices.specs.declared.profiles.Band.{Band}

-- an hour of both, and the test for it

abbrev pub HourOf : ℕ → ℕ → ℕ → Type 0
HourOf s e h = (s ≤ h) × (h < e)

hour_iff : (s e h : ℕ) → (is_hour s e h ≡ true) ↔ HourOf s e h
unfolding is_hour
hour_iff s e h = (
  λ t. let p = both (leb s h) (ltb h e) t in (leb-true s h p.0, ltb-true h e p.1),
  λ r. and_intro (le-leb s h r.0) (lt-ltb h e r.1),
)

pub record Shared (b : Band) (n : Notice) : Type 0 where
  pub hour : ℕ
  pub of_notice : HourOf n.start n.end hour
  pub of_band : HourOf b.start b.end hour

module _ (b : Band) (n : Notice) where
  abbrev shared : ℕ → Bool
  shared h = is_hour n.start n.end h && is_hour b.start b.end h

  pub touches_iff : (touches b n ≡ true) ↔ Shared b n
  unfolding touches
  touches_iff = (
    λ e. let p = (some_iff b.end shared).0 e in
        let h = p.which in
        let parts = both (is_hour n.start n.end h) (is_hour b.start b.end h) p.passes in
        record { hour = h; of_notice = (hour_iff n.start n.end h).0 parts.0; of_band = (hour_iff b.start b.end h).0 parts.1 },
    λ s. let h = s.hour in
        let passes = and_intro ((hour_iff n.start n.end h).1 s.of_notice) ((hour_iff b.start b.end h).1 s.of_band) in
        (some_iff b.end shared).1 (record { which = h; below = s.of_band.1; passes = passes }),
  )

  -- each start is before each end, as the code compares
  abbrev ends : Bool
  ends = ltb n.start b.end && ltb b.start n.end && ltb n.start n.end && ltb b.start b.end

  pub touches_ends : ends ≡ touches b n
  touches_ends =
      same_test ends (touches b n)
      (λ e. let own_band = both _ (ltb b.start b.end) e in
      let own_notice = both _ (ltb n.start n.end) own_band.0 in
      let across = both (ltb n.start b.end) (ltb b.start n.end) own_notice.0 in
      let band_some = ltb-true b.start b.end own_band.1 in
      let notice_some = ltb-true n.start n.end own_notice.1 in
      let in_time = ltb-true n.start b.end across.0 in
      let not_over = ltb-true b.start n.end across.1 in
      touches_iff.1 (record { hour = max n.start b.start; of_notice = (omega arith, omega arith); of_band = (omega arith, omega arith) }))
      (λ e. let s = touches_iff.0 e in
      let notice = s.of_notice in
      let band = s.of_band in
      and_intro
      (and_intro (and_intro (lt-ltb n.start b.end (omega arith)) (lt-ltb b.start n.end (omega arith))) (lt-ltb n.start n.end (omega arith)))
      (lt-ltb b.start b.end (omega arith)))
