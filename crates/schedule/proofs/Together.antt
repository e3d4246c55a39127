-- What an accepted list is, said of any two of its notices: a later day, or the same day, one in the morning and one in the evening.
-- From each notice and the next by recursion on the later one. So every accepted list is `Standing`, and under profile 2 any two
-- events are seven hours apart.
-- Assumes nothing.
use Prim.Native.Nat.{ℕ, zero, suc, ◌+◌, ◌*◌, ◌≤◌, ◌<◌}
use mathlib.Core.List.{List}
use mathlib.Core.Logic.{inl, inr, ⊎_elim}
use mathlib.Core.Path.{◌≡◌, sym, ◌∙◌}
use native.Mathlib.Nat.{eq-or-lt_of_le}
use native.Mathlib.Omega.{arith}
use borrow.Author.Tests.{lt-ltb, le-ltb}
use Rattle.laws.specs.Table.{accepted}
use Rattle.notices.proofs.HourLaws.{Inside}
use Rattle.notices.proofs.ProfileLaws.{option_figures}
use Rattle.notices.specs.Notices.{count_of, notice_at}
use Rattle.notices.specs.Profiles.{power_option, figures_of, profile_number}
use Rattle.notices.specs.Sane.{Banded, banded}
use Rattle.notices.specs.declared.notices.Notice.{Notice}
use Rattle.notices.specs.declared.profiles.Figures.{Figures}
use Rattle.notices.specs.declared.profiles.Profile.TheVariants.{PowerOption}
use Rattle.notices.specs.declared.profiles.Profile.{Profile}
use Rattle.schedule.specs.ListCheck.{check_answer}
use Rattle.schedule.proofs.Accepted.{Lawful, accepted_iff_lawful}
use Rattle.schedule.proofs.Lawful.{Sound, Alike, Follows}
use Rattle.schedule.proofs.Standing.{Stands, OneDay, Later, Standing}

module _ (w : ℕ) (f : Figures) (ok : Banded f) where
  -- two notices in a row on one day, by their bands
  in_one_day : (m n : Notice) → Sound w f m → Sound w f n → m.day ≡ n.day → m.end ≤ n.start → (Alike f m n → ⊥) → OneDay f m n
  in_one_day m n s t d o apart =
      let m_some = s.some_hour in
      let n_some = t.some_hour in
      let morning = ok.morning in
      let evening = ok.evening in
      let split = f.evening.start in
      ⊎_elim
      (λ (a : Inside f.morning m). ⊎_elim
      (λ (b : Inside f.morning n). absurd
      (apart (record { same_day = d; same_band_lem = lt-ltb m.start split (omega arith) ∙ sym (lt-ltb n.start split (omega arith)) })))
      (λ (b : Inside f.evening n). record { same_day = d; morning = a.to; evening = b.from })
      t.band)
      (λ (a : Inside f.evening m). ⊎_elim
      (λ (b : Inside f.morning n). absurd (omega arith))
      (λ (b : Inside f.evening n). absurd
      (apart (record { same_day = d; same_band_lem = le-ltb m.start split a.from ∙ sym (le-ltb n.start split b.from) })))
      t.band)
      s.band

  next_later : (m n : Notice) → Sound w f m → Sound w f n → Follows f m n → Later f m n
  next_later m n s t o =
      ⊎_elim (λ (e : m.day < n.day). inl e)
      (λ (e : (m.day ≡ n.day) × (m.end ≤ n.start)). inr (in_one_day m n s t e.0 e.1 o.apart))
      o.order

  later_trans : (a b c : Notice) → Sound w f b → Later f a b → Later f b c → Later f a c
  later_trans a b c s x y =
      let some = s.some_hour in
      let morning = ok.morning in
      let evening = ok.evening in
      ⊎_elim
      (λ (p : a.day < b.day). ⊎_elim (λ (q : b.day < c.day). inl (omega arith)) (λ (q : OneDay f b c). inl (omega arith)) y)
      (λ (p : OneDay f a b). ⊎_elim (λ (q : b.day < c.day). inl (omega arith)) (λ (q : OneDay f b c). absurd (omega arith)) y)
      x

  any_two : (l : List ℕ) → Lawful w f l → (j i : ℕ) → i < j → j < count_of l → Later f (notice_at l i) (notice_at l j)
  any_two l r zero i a b = absurd (omega arith)
  any_two l r (suc j) i a b =
      let here = next_later (notice_at l j) (notice_at l (suc j)) (r.each j (omega arith)) (r.each (suc j) b) (r.follows j b) in
      ⊎_elim
      (λ (e : i ≡ j). rw e here)
      (λ (e : i < j).
      later_trans (notice_at l i) (notice_at l j) (notice_at l (suc j)) (r.each j (omega arith)) (any_two l r j i e (omega arith)) here)
      (eq-or-lt_of_le (omega arith))

  stands : (n : Notice) → Sound w f n → Stands w f n
  stands n s =
      record {
        from_december = s.period.0;
        in_book = s.period.1;
        open_day = s.open_day;
        some_hour = s.some_hour;
        in_band = s.band;
        short = s.long.1;
      }

  lawful_standing : (l : List ℕ) → Lawful w f l → Standing w f l
  lawful_standing l r =
      record {
        bands = ok;
        few = r.few;
        each = λ k h. stands (notice_at l k) (r.each k h);
        later = λ i j a b. any_two l r j i a b;
        hours = r.hours;
      }

pub accepted_standing : (w : ℕ) (p : Profile) (l : List ℕ) → check_answer w (profile_number p) l ≡ accepted → Standing w (figures_of p) l
accepted_standing w p l e = lawful_standing w (figures_of p) (banded p) l ((accepted_iff_lawful w p l).0 e)

-- rule 3.8: an event is over seven hours before any later one starts
pub seven_hours_apart : (w : ℕ) (l : List ℕ) → check_answer w 2 l ≡ accepted → (i j : ℕ) → i < j → j < count_of l
    → 24 * (notice_at l i).day + (notice_at l i).end + 7 ≤ 24 * (notice_at l j).day + (notice_at l j).start
seven_hours_apart w l e i j a b =
    let m = notice_at l i in
    let n = notice_at l j in
    let st : Standing w power_option l = rw (← option_figures) (accepted_standing w PowerOption l e) in
    let s = st.each i (omega arith) in
    let t = st.each j b in
    let ends : m.end ≤ 20 =
    ⊎_elim (λ (x : Inside power_option.morning m). omega arith) (λ (x : Inside power_option.evening m). x.to) s.in_band in
    let starts : 6 ≤ n.start =
    ⊎_elim (λ (x : Inside power_option.morning n). x.from) (λ (x : Inside power_option.evening n). omega arith) t.in_band in
    ⊎_elim (λ (x : m.day < n.day). omega arith) (λ (x : OneDay power_option m n). omega arith) (st.later i j a b)
