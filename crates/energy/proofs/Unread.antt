-- What no event reads: of the needed readings none is the hour that the clocks pass over, since each day has the hours that are read on it; and
-- none lies on a day that is neither the event's nor one of its reference days.
-- Assumes nothing.
use Prim.Native.Nat.{ℕ, ◌-◌, ◌≤◌, ◌<◌}
use mathlib.Core.Bool.{Bool, true, false}
use mathlib.Core.List.{List, ◌∷◌, ◌++◌}
use mathlib.Core.Path.{◌≡◌}
use native.Mathlib.Omega.{arith}
use Rattle.book.proofs.PlaceLaws.{on_days}
use Rattle.book.proofs.RunLaws.{hours_each}
use Rattle.book.specs.Places.{InDay, hour_place, hours_from}
use Rattle.calendar.proofs.ClockLaws.{no_hour}
use Rattle.calendar.specs.Clocks.{clocks_forward, passed_hour, has_hour}
use Rattle.calendar.specs.declared.answers.Winter.{Winter}
use Rattle.laws.proofs.Every.{Every, joined, imply, both}
use Rattle.notices.specs.declared.notices.Notice.{Notice}
use Rattle.references.proofs.FiveFound.{why_serves}
use Rattle.references.proofs.LackingDay.{HasHours}
use Rattle.references.proofs.Nearest.{refs_serve}
use Rattle.references.proofs.WarmUpLaws.{warm_there}
use Rattle.references.specs.ReferenceDays.{reference_days}
use Rattle.references.specs.WarmUp.{warm_up}
use Rattle.energy.specs.Asked.{asked_by, needed}
use Rattle.energy.specs.HoursOf.{Spans}
use Rattle.energy.proofs.HourLaws.{warm_below}

module _ (w : Winter) (free : ℕ → Bool) (n : Notice) (spans : Spans n.start n.end) where
  abbrev warm : List ℕ
  warm = warm_up w n.day n.start

  abbrev event : List ℕ
  event = hours_from n.start (n.end - n.start)

  abbrev refs : List ℕ
  refs = reference_days w free n.day n.start

  warm_in : Every InDay warm
  warm_in = warm_below w n.day n.start (omega (arith, spans.in_day, spans.some_hour))

  event_within : Every (λ (h : ℕ). (6 ≤ h) × (h < 24)) event
  event_within = hours_each _ n.start (n.end - n.start) (λ h from to. omega (arith, spans.late, spans.in_day, spans.some_hour))

  abbrev NotPassed : ℕ → Type 0
  NotPassed p = p ≡ hour_place (clocks_forward w) passed_hour → ⊥

  -- on a day that has the warm-up hours
  hours_there : (d : ℕ) → HasHours w d warm → Every (λ (h : ℕ). NotPassed (hour_place d h)) (warm ++ event)
  hours_there d has = joined _ warm event (imply _ _ each_warm warm (both _ _ warm has warm_in)) (imply _ _ each_own event event_within)
    where
      each_own : (h : ℕ) → (6 ≤ h) × (h < 24) → NotPassed (hour_place d h)
      each_own h in_day e = omega arith

      each_warm : (h : ℕ) → (has_hour w d h ≡ true) × InDay h → NotPassed (hour_place d h)
      each_warm h p e =
          let day : d ≡ clocks_forward w = omega (arith, p.1) in
          let hour : h ≡ passed_hour = omega (arith, p.1) in
          clash (rw hour at p.0) (no_hour w d day)
        where
          clash : has_hour w d passed_hour ≡ true → has_hour w d passed_hour ≡ false → ⊥
          clash t f = let z : ◌≡◌ {A = ℕ} 0 1 = cc in omega arith

  pub passed_unread : Every NotPassed (needed (asked_by w free n))
  unfolding needed asked_by
  passed_unread =
      on_days NotPassed (warm ++ event) (n.day ∷ refs) (
        hours_there n.day (warm_there w n.day n.start),
        imply _ _ (λ d p. hours_there d (why_serves w free n.day n.start d p.ok_is).has_hours) refs (refs_serve w free n.day n.start),
      )

  -- a day that is none of the six
  pub day_unread : (d : ℕ) → (n.day ≡ d → ⊥) → Every (λ (r : ℕ). r ≡ d → ⊥) refs
      → Every (λ (p : ℕ). (h : ℕ) → InDay h → p ≡ hour_place d h → ⊥) (needed (asked_by w free n))
  unfolding needed asked_by
  day_unread d own others =
      on_days _ (warm ++ event) (n.day ∷ refs) (imply _ _ (λ x other. imply _ _ (at_hours x other) (warm ++ event) all_in) (n.day ∷ refs) (own, others))
    where
      all_in : Every InDay (warm ++ event)
      all_in = joined InDay warm event warm_in (imply _ InDay (λ h b. b.1) event event_within)

      at_hours : (x : ℕ) → (x ≡ d → ⊥) → (y : ℕ) → InDay y → (h : ℕ) → InDay h → hour_place x y ≡ hour_place d h → ⊥
      at_hours x other y in_day h in-day' e = other (omega arith)
