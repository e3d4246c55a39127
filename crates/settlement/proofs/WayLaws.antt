-- How the call comes to its answer: of a list that its notices do not refuse, the winter's facts and the list's masks give the events of the energies.
-- Assumes nothing.
use Prim.Native.Nat.{ℕ, ◌<◌}
use mathlib.Core.Bool.{false}
use mathlib.Core.List.{List}
use mathlib.Core.Path.{◌≡◌}
use Rattle.calendar.specs.WinterOf.{winter_of}
use Rattle.calendar.specs.declared.answers.Winter.{Winter}
use Rattle.dates.specs.Winters.{no_winter}
use Rattle.event_hours.specs.Days.{masks_of}
use Rattle.laws.specs.Table.{is_refusal}
use Rattle.notices.specs.Notices.{count_of}
use Rattle.notices.specs.declared.profiles.Profile.TheVariants.{Credit}
use Rattle.schedule.proofs.Accepted.{check_accepted, check_credit}
use Rattle.schedule.proofs.Together.{accepted_standing}
use Rattle.schedule.specs.ListCheck.{checked_in}
use Rattle.settlement.specs.Energies.{total_of}
use Rattle.settlement.specs.Events.{event_at, event_in}
use Rattle.settlement.specs.Lines.{lines_in}
use Rattle.settlement.proofs.EventLaws.{same_event}
use Rattle.settlement.proofs.LineLaws.{energy_same, lines_same}

module _ (y : ℕ) (book l : List ℕ) (w : Winter) (v : no_winter y ≡ false) (e : w ≡ winter_of y) (none : is_refusal (checked_in w Credit l) ≡ false) where
  pub events_same : (k : ℕ) → k < count_of l → event_in w book (masks_of l) l k ≡ event_at y book l k
  events_same = rw e (same_event (accepted_standing y Credit l (check_accepted y 1 l (rw (check_credit y l v) (rw e at none)))) book)

  pub total_same : total_of (event_in w book (masks_of l) l) (count_of l) ≡ total_of (event_at y book l) (count_of l)
  total_same = rw (energy_same (event_in w book (masks_of l) l) (event_at y book l) (count_of l) events_same)

  pub lines_are : (out : List ℕ) → lines_in (event_in w book (masks_of l) l) (count_of l) out ≡ lines_in (event_at y book l) (count_of l) out
  lines_are out = rw (lines_same (event_in w book (masks_of l) l) (event_at y book l) (count_of l) events_same)
