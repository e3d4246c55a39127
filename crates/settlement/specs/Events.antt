-- The events of a winter's notices: code, place and energy of each.
-- Assumes nothing.
use Rattle.std.specs.Prelude.{ℕ, List}
use Rattle.calendar.specs.WinterOf.{winter_of}
use Rattle.calendar.specs.declared.answers.Winter.{Winter}
use Rattle.energy.specs.Line.{event_answer}
use Rattle.energy.specs.Event.{Event}
use Rattle.event_hours.specs.Days.{masks_of}
use Rattle.event_hours.specs.Events.{event_on}
use Rattle.notices.specs.Notices.{notice_at}

-- the event that the notice at index k is (rule 7.8)
unfoldable pub event_at : ℕ → List ℕ → List ℕ → ℕ → Event
event_at y book l k = (event_answer (winter_of y) book (masks_of l) (notice_at l k)).event

-- the same as the code has it: by a winter's facts and some masks, the event being what these hold on the notice's day and in its band (rule 2.15)
unfoldable pub event_in : Winter → List ℕ → List ℕ → List ℕ → ℕ → Event
event_in w book masks l k = (event_answer w book masks (event_on masks (notice_at l k))).event

-- the energies of events
abbrev pub energy_at : (ℕ → Event) → ℕ → ℕ
energy_at events k = (events k).energy
