-- The line of an event: code, place and energy; and the answer of the call on one event.
-- Assumes nothing.
use Rattle.std.specs.Prelude.{ℕ, zero, suc, not, cond, List, ◌∷◌, Option, Some, None, Result, Ok, Err, ltb, length}
use Rattle.book.specs.Length.{wrong_length}
use Rattle.book.specs.Readings.{first_fault}
use Rattle.book.specs.declared.values.Fault.{Fault}
use Rattle.book.specs.declared.values.Fault.TheVariants.{Missing, TooLarge}
use Rattle.calendar.specs.Days.{wrong_winter, in_period}
use Rattle.calendar.specs.declared.answers.Winter.{Winter}
use Rattle.laws.specs.Table.{Row, row, first_of}
use Rattle.notices.specs.HoursVerdict.{hour_rows}
use Rattle.notices.specs.Profiles.{figures_of}
use Rattle.notices.specs.declared.notices.Notice.{Notice}
use Rattle.notices.specs.declared.profiles.Profile.TheVariants.{Credit}
use Rattle.energy.specs.Asked.{Asked, asked_by, needed}
use Rattle.energy.specs.Energy.{energy_of}
use Rattle.energy.specs.Event.{Event, settled, unsettled, event_paper}
use Rattle.energy.specs.declared.events.Unsettled.{Unsettled}
use Rattle.references.specs.ReferenceDays.{free_in}
use Rattle.refusals.specs.Refusals.{rule_number}
use Rattle.refusals.specs.declared.rule.Rule.{Rule}

-- by the first fault among the needed readings (rules 5.9 and 5.10)
abbrev pub by_fault : Option Fault → ℕ → Event
by_fault None energy = settled energy
by_fault (Some (Missing p)) energy = unsettled 21 p
by_fault (Some (TooLarge p)) energy = unsettled 22 p

-- rules 5.8, 5.9, 5.10 and 5.11: the line, the code 20 tried before all others
unfoldable pub line_of : List ℕ → Asked → Event
line_of book q = cond (ltb (length q.refs) 5) (unsettled 20 0) (by_fault (first_fault book (needed q)) (energy_of book q))

-- what the call on one event answers: the refusal number, 0 if there is none, and the event, of which a refusal says nothing
pub record EventAnswer : Type 0 where
  pub number : ℕ
  pub event : Event

abbrev pub told : ℕ → Event → EventAnswer
told number event = record { number = number; event = event }

-- the paper's number and event for each case (rule 4.25)
abbrev pub line_paper : Result (Result ℕ Unsettled) Rule → EventAnswer
line_paper (Ok event) = told 0 (event_paper event)
line_paper (Err rule) = told (rule_number rule) (settled 0)

-- rule 4.24: what refuses the call on one event, by how many readings the book has
unfoldable pub event_rows : Winter → ℕ → Notice → List Row
event_rows w readings n =
    row 1 0 (wrong_winter w)
    ∷ row 2 0 (wrong_length w.days readings)
    ∷ row 10 0 (not (in_period w n.day))
    ∷ hour_rows (figures_of Credit) n 0

-- an event, where a number refuses nothing
abbrev pub unless_refused : ℕ → Event → EventAnswer
unless_refused zero event = told 0 event
unless_refused (suc number) event = told (suc number) (settled 0)

-- the call on one event (rule 4.24)
unfoldable pub event_answer : Winter → List ℕ → List ℕ → Notice → EventAnswer
event_answer w book masks n = unless_refused (first_of (event_rows w (length book) n)).number (line_of book (asked_by w (free_in masks) n))
