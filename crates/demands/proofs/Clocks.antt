-- Beside demand 2: the warm-up hours, which are said by elapsed hours, are the tabled ones on every day of every winter and at every start; what
-- the clocks pass over or repeat is not read; and code 20 is given to no line of an accepted list.
-- Assumes nothing.
use Prim.Native.Nat.{ℕ, ◌+◌, ◌-◌, ◌≤◌, ◌<◌}
use mathlib.Core.Bool.{Bool, true, false, cond}
use mathlib.Core.List.{List, [], ◌∷◌}
use mathlib.Core.Logic.{⊎_elim}
use mathlib.Core.Path.{◌≡◌, refl, sym, ◌∙◌}
use native.Mathlib.Nat.{eq-or-lt_of_le}
use native.Mathlib.Omega.{arith}
use lib.Dec.{ltb, eqb}
use borrow.Author.Tests.{eqb-true, eqb-false}
use Rattle.book.proofs.RunLaws.{run_more, run_none}
use Rattle.book.specs.Places.{run}
use Rattle.calendar.proofs.ClockLaws.{back_sunday}
use Rattle.calendar.specs.Clocks.{clocks_back, clocks_forward, passed_hour}
use Rattle.calendar.specs.WinterOf.{winter_of}
use Rattle.calendar.specs.declared.answers.Winter.{Winter}
use Rattle.energy.proofs.Unread.{passed_unread, day_unread}
use Rattle.energy.specs.Asked.{asked_by, needed}
use Rattle.energy.specs.HoursOf.{Spans}
use Rattle.event_hours.proofs.FreeDays.{quiet}
use Rattle.event_hours.specs.Days.{masks_of}
use Rattle.laws.proofs.Every.{Every, imply}
use Rattle.notices.proofs.HourLaws.{Inside}
use Rattle.notices.specs.Notices.{count_of}
use Rattle.notices.specs.Profiles.{credit}
use Rattle.notices.specs.Sane.{PartOf}
use Rattle.notices.specs.declared.notices.Notice.{Notice}
use Rattle.notices.specs.declared.profiles.Band.{Band}
use Rattle.notices.specs.declared.profiles.Figures.{Figures}
use Rattle.references.proofs.FiveFound.{first_week_unread}
use Rattle.references.proofs.ReferenceLaws.{zero_free}
use Rattle.references.proofs.WarmUpLaws.{around_passed, warm_run_lem}
use Rattle.references.specs.ReferenceDays.{free_in, reference_days}
use Rattle.references.specs.WarmUp.{longest_ahead, warm_up}
use Rattle.schedule.proofs.Standing.{Stands, Standing}
use Rattle.demands.specs.Clocks.{tabled_hours, Unread}
use Rattle.demands.specs.Demand2.{Demand2}
use Rattle.demands.specs.Faces.{Sheet}

-- runs of one, two and three hours written out
run_one : (a d : ℕ) → d ≡ a + 1 → run a d ≡ a ∷ []
run_one a d e = rw (run_more a d (omega arith), run_none (a + 1) d (omega arith))

run_two : (a b d : ℕ) → b ≡ a + 1 → d ≡ b + 1 → run a d ≡ a ∷ b ∷ []
run_two a b d e f = rw (run_more a d (omega arith), ← e, run_one b d f)

run_three : (a b c d : ℕ) → b ≡ a + 1 → c ≡ b + 1 → d ≡ c + 1 → run a d ≡ a ∷ b ∷ c ∷ []
run_three a b c d e f g = rw (run_more a d (omega arith), ← e, run_two b c d f g)

module _ (w : Winter) (day s : ℕ) (least : 6 ≤ s) where
  -- one run, by the band
  as_ever : warm_up w day s ≡ run (s - longest_ahead s) (s - 2) → warm_up w day s ≡ tabled_hours false s
  as_ever = by (ltb s credit.evening.start)
    where
      by : (m : Bool) → warm_up w day s ≡ run (s - cond m 5 4) (s - 2)
          → warm_up w day s ≡ cond m ((s - 5) ∷ (s - 4) ∷ (s - 3) ∷ []) ((s - 4) ∷ (s - 3) ∷ [])
      by true e = e ∙ run_three (s - 5) (s - 4) (s - 3) (s - 2) (omega arith) (omega arith) (omega arith)
      by false e = e ∙ run_two (s - 4) (s - 3) (s - 2) (omega arith) (omega arith)

  -- the Sunday the clocks go forward
  module _ (forward : day ≡ clocks_forward w) where
    at_six : s ≡ 6 → warm_up w day s ≡ 0 ∷ 1 ∷ 3 ∷ []
    at_six e =
        around_passed w day s forward least (omega arith)
        ∙ rw (run_two (s - 6) (s - 5) passed_hour (omega arith) (omega arith), run_one (passed_hour + 1) (s - 2) (omega arith), e)

    at_seven : s ≡ 7 → warm_up w day s ≡ 1 ∷ 3 ∷ 4 ∷ []
    at_seven e =
        around_passed w day s forward least (omega arith)
        ∙ rw (run_one (s - 6) passed_hour (omega arith), run_two (passed_hour + 1) (s - 3) (s - 2) (omega arith) (omega arith), e)

    on_sunday_lem : (six seven : Bool) → eqb s 6 ≡ six → eqb s 7 ≡ seven
        → warm_up w day s ≡ cond six (0 ∷ 1 ∷ 3 ∷ []) (cond seven (1 ∷ 3 ∷ 4 ∷ []) (tabled_hours false s))
    on_sunday_lem true seven e f = at_six (eqb-true s 6 e)
    on_sunday_lem false true e f = at_seven (eqb-true s 7 f)
    on_sunday_lem false false e f = as_ever (warm_run_lem w day s (λ z. later (eqb-false s 6 e) (eqb-false s 7 f)))
      where
        later : (s ≡ 6 → ⊥) → (s ≡ 7 → ⊥) → 8 ≤ s
        later not-six not-seven =
            ⊎_elim (λ (six : 6 ≡ s). absurd (not-six (sym six)))
            (λ (more : 6 < s). ⊎_elim (λ (seven : 7 ≡ s). absurd (not-seven (sym seven))) (λ (eight : 7 < s). eight) (eq-or-lt_of_le more))
            (eq-or-lt_of_le least)

  pub warm_up_tabled : warm_up w day s ≡ tabled_hours (eqb day (clocks_forward w)) s
  warm_up_tabled = by (eqb day (clocks_forward w)) refl
    where
      by : (b : Bool) → eqb day (clocks_forward w) ≡ b → warm_up w day s ≡ tabled_hours b s
      by true e = on_sunday_lem (eqb-true day (clocks_forward w) e) (eqb s 6) (eqb s 7) refl refl
      by false e = as_ever (warm_run_lem w day s (λ (z : day ≡ clocks_forward w). absurd (eqb-false day (clocks_forward w) e z)))

-- what a notice of an accepted list never asks for: hour 2 of the Sunday the clocks go forward, and the one they go back. No day of November
-- carries an event
pub no_event_yet : {y : ℕ} {f : Figures} {l : List ℕ} → Standing y f l → (d : ℕ) → d < 30 → free_in (masks_of l) d ≡ true
no_event_yet {y} {f} {l} st d h = zero_free (masks_of l) d (quiet st d h)

module _ {y : ℕ} {f : Figures} {l : List ℕ} (st : Standing y f l) (n : Notice) (stands : Stands y f n) where
  abbrev winter : Winter
  winter = winter_of y

  abbrev free : ℕ → Bool
  free = free_in (masks_of l)

  pub in_credit_band : Spans n.start n.end
  in_credit_band =
      ⊎_elim (λ (i : Inside f.morning n). within st.bands.morning i (omega arith) (omega arith) (omega arith))
      (λ (i : Inside f.evening n). within st.bands.evening i (omega arith) (omega arith) (omega arith))
      stands.in_band
    where
      within : {whole part : Band} → PartOf whole part → Inside part n → 6 ≤ whole.start → whole.end ≤ 20 → whole.end ≤ whole.start + 4
          → Spans n.start n.end
      within p i late in_day few = record {
        late = omega (arith, p.from, i.from);
        some_hour = stands.some_hour;
        few = omega (arith, p.from, p.to, i.from, i.to);
        in_day = omega (arith, p.to, i.to);
      }

  later_than_back : (d : ℕ) → 7 ≤ d → d ≡ clocks_back winter → ⊥
  later_than_back d b e = omega (arith, (back_sunday winter).in_week)

  refs_later : Every (λ (r : ℕ). r ≡ clocks_back winter → ⊥) (reference_days winter free n.day n.start)
  refs_later =
      imply (λ (r : ℕ). 7 ≤ r) (λ (r : ℕ). r ≡ clocks_back winter → ⊥) later_than_back (reference_days winter free n.day n.start)
      (first_week_unread y free n.day n.start (no_event_yet st) stands.from_december)

  pub unread : Unread y (needed (asked_by winter free n))
  unread = record {
    none_passed_hour = passed_unread winter free n in_credit_band;
    none_clocks_back = day_unread winter free n in_credit_band (clocks_back winter) (later_than_back n.day (omega (arith, stands.from_december))) refs_later;
  }

-- no line of an accepted list has the code 20: it is 0, 21 or 22
pub never_20 : {winter : ℕ} {book list : List ℕ} {s : Sheet} → Demand2 winter book list s → (k : ℕ) → k < count_of list → s.code k ≡ 20 → ⊥
never_20 d k h twenty =
    let says = (d.each k h).says in
    ⊎_elim (λ (missing : _). omega (arith, missing.0)) (λ (large : _). omega (arith, large.0)) (says.unsettled (λ z. omega arith)).why
