-- How the call comes to its settlement: of a list that its notices do not refuse, the winter's facts and the list's masks give the events that are
-- settled.
-- Assumes nothing.
use Prim.Native.Nat.{ℕ}
use mathlib.Core.Bool.{false}
use mathlib.Core.List.{List}
use mathlib.Core.Path.{◌≡◌}
use Rattle.calendar.specs.WinterOf.{winter_of}
use Rattle.calendar.specs.declared.answers.Winter.{Winter}
use Rattle.dates.specs.Winters.{no_winter}
use Rattle.event_hours.specs.Days.{masks_of}
use Rattle.laws.specs.Table.{is_refusal}
use Rattle.notices.specs.Notices.{count_of}
use Rattle.notices.specs.declared.profiles.Profile.TheVariants.{Credit}
use Rattle.schedule.specs.ListCheck.{checked_in}
use Rattle.settlement.proofs.WayLaws.{events_same}
use Rattle.settlement.specs.Events.{event_at, event_in}
use Rattle.credit.specs.Settlement.{totals_of, lines_in}
use Rattle.credit.proofs.LineLaws.{energy_same, lines_same}

module _ (y p : ℕ) (book l : List ℕ) (w : Winter) (v : no_winter y ≡ false) (e : w ≡ winter_of y) (none : is_refusal (checked_in w Credit l) ≡ false) where
  pub totals_same : totals_of p (event_in w book (masks_of l) l) (count_of l) ≡ totals_of p (event_at y book l) (count_of l)
  totals_same = rw (energy_same (event_in w book (masks_of l) l) (event_at y book l) (count_of l) (events_same y book l w v e none))

  pub lines_are : (out : List ℕ) → lines_in p (event_in w book (masks_of l) l) (count_of l) out ≡ lines_in p (event_at y book l) (count_of l) out
  lines_are out = rw (lines_same (event_in w book (masks_of l) l) (event_at y book l) p (count_of l) (events_same y book l w v e none))
