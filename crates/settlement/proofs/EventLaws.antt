-- Laws of the events of a list: none is larger than the largest energy, of a list that stands each is the event of its notice, and that of a
-- lawful notice is its line.
-- Assumes nothing.
use Prim.Native.Nat.{ℕ, ◌≤◌, ◌<◌}
use mathlib.Core.List.{List}
use mathlib.Core.Path.{◌≡◌, refl, ap}
use lib.ListN.{length}
use Rattle.book.specs.Length.{book_length}
use Rattle.calendar.specs.WinterOf.{winter_of}
use Rattle.calendar.specs.declared.answers.Winter.{Winter}
use Rattle.dates.specs.Winters.{days}
use Rattle.energy.proofs.CallLaws.{event_given}
use Rattle.energy.proofs.EventLaws.{answer_most}
use Rattle.energy.specs.Asked.{asked_by}
use Rattle.energy.specs.Line.{line_of, EventAnswer, line_paper, event_answer}
use Rattle.energy.specs.Event.{event_paper}
use Rattle.energy.specs.declared.events.Unsettled.{Unsettled}
use Rattle.references.specs.ReferenceDays.{free_in}
use Rattle.event_hours.proofs.OwnHours.{event_back}
use Rattle.event_hours.specs.Days.{masks_of}
use Rattle.event_hours.specs.Events.{event_on}
use Rattle.laws.specs.Bounds.{largest_energy}
use Rattle.notices.specs.Notices.{count_of, notice_at}
use Rattle.notices.specs.Profiles.{figures_of}
use Rattle.notices.specs.declared.notices.Notice.{Notice}
use Rattle.notices.specs.declared.profiles.Profile.TheVariants.{Credit}
use Rattle.refusals.specs.declared.rule.Rule.{Rule}
use Rattle.std.specs.Prelude.{Ok, Err, Result}
use Rattle.std.specs.Result.{result_unwrap_or}
use Rattle.schedule.proofs.Lawful.{Sound}
use Rattle.notices.specs.declared.profiles.Figures.{Figures}
use Rattle.schedule.proofs.Standing.{Standing}
use Rattle.settlement.specs.Events.{event_at, event_in, energy_at}

-- what stands for the event of a line: none where it is refused
pub event_or_none : (r : Result (Result ℕ Unsettled) Rule) → event_paper (result_unwrap_or r (Ok 0)) ≡ (line_paper r).event
event_or_none (Ok event) = refl
event_or_none (Err rule) = refl

pub energies_bounded : (w : Winter) (book masks l : List ℕ) (k : ℕ) → energy_at (event_in w book masks l) k ≤ largest_energy
unfolding event_in
energies_bounded w book masks l k = answer_most w book masks (event_on masks (notice_at l k))

pub event_bounded : (y : ℕ) (book l : List ℕ) (k : ℕ) → energy_at (event_at y book l) k ≤ largest_energy
unfolding event_at
event_bounded y book l k = answer_most (winter_of y) book (masks_of l) (notice_at l k)

-- the event that the masks of the list hold for a notice is the notice
pub same_event : {y : ℕ} {f : Figures} {l : List ℕ} → Standing y f l → (book : List ℕ) (k : ℕ) → k < count_of l
    → event_in (winter_of y) book (masks_of l) l k ≡ event_at y book l k
unfolding event_in event_at
same_event {y} {l = l} st book k h = ap (λ (n : Notice). (event_answer (winter_of y) book (masks_of l) n).event) (event_back st k h)

-- a notice that is lawful by itself is its line: what its needed readings come to
pub event_is_line : (y : ℕ) (book l : List ℕ) (k : ℕ) → length book ≡ book_length (days y) → Sound y (figures_of Credit) (notice_at l k)
    → event_at y book l k ≡ line_of book (asked_by (winter_of y) (free_in (masks_of l)) (notice_at l k))
unfolding event_at
event_is_line y book l k b s = ap (λ (a : EventAnswer). a.event) (event_given y book (masks_of l) (notice_at l k) b s)
