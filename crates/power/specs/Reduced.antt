-- What an event spared by its reference: its code, its place, its energy in Wh, and its reduction in twelfths of a W.
-- Assumes nothing.
use Rattle.std.specs.Prelude.{ℕ, ◌-◌, ◌*◌, ◌/◌, List, get_or}
use Rattle.book.specs.Places.{run, places_of}
use Rattle.book.specs.Readings.{reading_at, first_fault, sum_over}
use Rattle.energy.specs.Line.{by_fault}
use Rattle.energy.specs.Event.{Event, event_paper}
use Rattle.notices.specs.Notices.{notice_at, hours_of}
use Rattle.notices.specs.declared.notices.Notice.{Notice}
use Rattle.power.specs.declared.events.Reduced as told

-- an event and its reduction, on paper, and those of the code
pub record Reduced : Type 0 where
  pub event : Event
  pub reduction : ℕ

abbrev pub reduced_paper : told.Reduced → Reduced
reduced_paper r = record { event = event_paper r.event; reduction = r.reduction }

-- rule 11.2: the places of the needed readings, by the notice alone
unfoldable pub needed_of : Notice → List ℕ
needed_of n = places_of n.day (run n.start n.end)

-- rule 11.3: the reference at every hour, less what these drew; 0 where that is negative, as differences here are
unfoldable pub spared_by : List ℕ → ℕ → Notice → ℕ
spared_by book reference n = reference * hours_of n - sum_over (reading_at book) (needed_of n)

-- rule 11.5: by the first fault among the needed readings
unfoldable pub event_of : List ℕ → ℕ → Notice → Event
event_of book reference n = by_fault (first_fault book (needed_of n)) (spared_by book reference n)

-- rule 11.4: an energy in Wh, over the hours of a notice, in twelfths of a W
unfoldable pub reduction_of : Notice → ℕ → ℕ
reduction_of n energy = 12 * energy / hours_of n

unfoldable pub reduced_of : List ℕ → ℕ → Notice → Reduced
reduced_of book reference n =
    record { event = event_of book reference n; reduction = reduction_of n (event_of book reference n).energy }

-- the reference of the notice at index k (rule 11.1), and what its event spared
abbrev pub reference_at : List ℕ → ℕ → ℕ
reference_at references k = get_or references k 0

unfoldable pub reduced_at : List ℕ → List ℕ → List ℕ → ℕ → Reduced
reduced_at book l references k = reduced_of book (reference_at references k) (notice_at l k)
