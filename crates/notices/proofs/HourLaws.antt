-- The rules of hours as propositions, each the same as its test: inside one band, by the ends and hour by hour; 13, 26 and 27, of which one is given
-- exactly where the test of all three finds a fault; the length, and what its test lets through. One law is of the code: the length test on a
-- callee's result.
-- Assumes nothing.
use Prim.Native.Nat.{ℕ, ◌-◌, ◌≤◌, ◌<◌}
use mathlib.Core.Bool.{Bool, true, false, ◌&&◌, ◌||◌, true≢false}
use mathlib.Core.Logic.{◌⊎◌, inl, inr, ⊎_elim, ◌↔◌}
use mathlib.Core.Path.{◌≡◌, refl, sym}
use mathlib.Mathlib.Data.Bool.Basic.{or_inr}
use native.Mathlib.Omega.{arith}
use lib.Dec.{leb, ltb}
use borrow.Author.Tests.{ltb-false, leb-false, le-ltb, lt-leb}
use Rattle.laws.proofs.Guards.{neither, no_fault}
use Rattle.laws.proofs.Tables.{NoneBroken, none_accepted, row_stops, row_goes}
use Rattle.laws.specs.Table.{accepted, first_of}
use Rattle.notices.specs.Hours.{touches, outside, no_hours, no_band, across_band, bad_hours, bad_length}
use Rattle.notices.specs.HoursVerdict.{hour_rows}
use Rattle.notices.specs.Notices.{hours_of}
use Rattle.notices.specs.Sane.{Sane}
use Rattle.notices.specs.declared.notices.Notice.{Notice}
use Rattle.notices.specs.declared.profiles.Band.{Band}
use Rattle.notices.specs.declared.profiles.Figures.{Figures}
use Rattle.notices.proofs.Touching.{HourOf, touches_iff}

-- the hours lie inside a band

pub record Inside (b : Band) (n : Notice) : Type 0 where
  pub from : b.start ≤ n.start
  pub to : n.end ≤ b.end

inside_iff : (b : Band) (n : Notice) → (outside b n ≡ false) ↔ Inside b n
unfolding outside
inside_iff b n = (
  λ h. let p = neither (ltb n.start b.start) (ltb b.end n.end) h in
      record { from = ltb-false n.start b.start p.0; to = ltb-false b.end n.end p.1 },
  λ i. no_fault (ltb n.start b.start) (ltb b.end n.end) (le-ltb n.start b.start i.from) (le-ltb b.end n.end i.to),
)

-- of a notice that has hours, said of these: each is an hour of the band
pub inside_hours : (b : Band) (n : Notice) → n.start < n.end
    → (outside b n ≡ false) ↔ ((h : ℕ) → HourOf n.start n.end h → HourOf b.start b.end h)
inside_hours b n some = (
  λ e h of. let i = (inside_iff b n).0 e in (omega (arith, i.from, of.0), omega (arith, i.to, of.1)),
  λ each. let first = each n.start (omega arith, some) in
      let last = each (n.end - 1) (omega (arith, some), omega (arith, some)) in
      (inside_iff b n).1 (record { from = first.0; to = omega (arith, some, last.1) }),
)

-- inside the morning band, or inside the evening band
abbrev pub InBand : Figures → Notice → Type 0
InBand f n = Inside f.morning n ⊎ Inside f.evening n

one_holds : (a b : Bool) → (a && b) ≡ false → (a ≡ false) ⊎ (b ≡ false)
one_holds true b h = inr h
one_holds false b h = inl refl

not_both : (a b : Bool) → (a ≡ false) ⊎ (b ≡ false) → (a && b) ≡ false
not_both true b (inl h) = absurd (true≢false h)
not_both true b (inr h) = h
not_both false b h = refl

module _ (f : Figures) (n : Notice) where
  in_band_iff : ((outside f.morning n && outside f.evening n) ≡ false) ↔ InBand f n
  in_band_iff = (
    λ h. ⊎_elim (λ a. inl ((inside_iff f.morning n).0 a)) (λ a. inr ((inside_iff f.evening n).0 a))
        (one_holds (outside f.morning n) (outside f.evening n) h),
    λ r. not_both (outside f.morning n) (outside f.evening n)
        (⊎_elim (λ (i : Inside f.morning n). inl ((inside_iff f.morning n).1 i)) (λ (i : Inside f.evening n). inr ((inside_iff f.evening n).1 i)) r),
  )

  pub hours_iff : (bad_hours f n ≡ false) ↔ ((n.start < n.end) × InBand f n)
  unfolding bad_hours no_hours across_band
  hours_iff = (
    λ h. let p = neither (leb n.end n.start) (outside f.morning n && outside f.evening n) h in
        (leb-false n.end n.start p.0, in_band_iff.0 p.1),
    λ r. no_fault (leb n.end n.start) (outside f.morning n && outside f.evening n) (lt-leb n.end n.start r.0) (in_band_iff.1 r.1),
  )

  -- one of 13, 26 and 27 is given exactly where the test of all three finds a fault

  inside_touches : (b : Band) → n.start < n.end → Inside b n → touches b n ≡ true
  inside_touches b some i = (touches_iff b n).1 (record { hour = n.start; of_notice = (omega arith, some); of_band = (i.from, omega (arith, some, i.to)) })

  in_some_band : bad_hours f n ≡ false → no_band f n ≡ false
  unfolding no_band
  in_some_band e =
      let rule = hours_iff.0 e in
      ⊎_elim (λ (i : Inside f.morning n). rw (inside_touches f.morning rule.0 i))
      (λ (i : Inside f.evening n). rw (or_inr (touches f.morning n) (touches f.evening n) (inside_touches f.evening rule.0 i)))
      rule.1

  pub hours_kept : (k : ℕ) → NoneBroken (hour_rows f n k) ↔ (bad_hours f n ≡ false)
  unfolding bad_hours
  hours_kept k = (
    λ t. no_fault (no_hours n) (across_band f n) t.0 t.1.1.0,
    λ e. let p = neither (no_hours n) (across_band f n) e in (p.0, (in_some_band e, (p.1, tt))),
  )

  -- hours inside one band are told as accepted, at any index
  pub in_band_told : (k : ℕ) → bad_hours f n ≡ false → accepted ≡ first_of (hour_rows f n k)
  in_band_told k e = sym (none_accepted (hour_rows f n k) ((hours_kept k).1 e))

  -- hours that are bad, but not for want of any, are not inside one band
  pub across_band_lem : bad_hours f n ≡ true → no_hours n ≡ false → across_band f n ≡ true
  unfolding bad_hours
  across_band_lem e some = rw some at e

  -- the length

  pub long_iff : (bad_length f n ≡ false) ↔ ((f.shortest ≤ n.end - n.start) × (n.end - n.start ≤ f.longest))
  unfolding bad_length hours_of
  long_iff = (
    λ h. let p = neither (ltb (n.end - n.start) f.shortest) (ltb f.longest (n.end - n.start)) h in
        (ltb-false (n.end - n.start) f.shortest p.0, ltb-false f.longest (n.end - n.start) p.1),
    λ r. no_fault (ltb (n.end - n.start) f.shortest) (ltb f.longest (n.end - n.start))
        (le-ltb (n.end - n.start) f.shortest r.0) (le-ltb f.longest (n.end - n.start) r.1),
  )

  -- a length that is allowed is no more than a day's
  pub hours_fit : Sane f → bad_length f n ≡ false → hours_of n ≤ 24
  unfolding hours_of
  hours_fit ok e = omega (arith, long_iff.0 e, ok.longest)

pub length_is : (f : Figures) (n : Notice) (h : ℕ) → h ≡ hours_of n → (ltb h f.shortest || ltb f.longest h) ≡ bad_length f n
unfolding bad_length
length_is f n h e = rw e

-- what `hours_verdict` goes by
pub ruleset told = (in_band_told, across_band_lem, row_stops, row_goes)
