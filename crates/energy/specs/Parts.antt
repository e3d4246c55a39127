-- The rules of an event on the parts of its days, of 24 readings each, and on nothing else of a book.
-- Assumes nothing.
use Rattle.std.specs.Prelude.{ℕ, Bool, true, ◌&&◌, List, [], ◌∷◌, ◌++◌, map, Option, None}
use Rattle.book.specs.Part.{fault_on}
use Rattle.book.specs.Readings.{reading_at, first_fault, sum_over}
use Rattle.book.specs.Values.{is_reading, or_fault}
use Rattle.book.specs.declared.values.Fault.{Fault}
use Rattle.energy.specs.HoursOf.{warm_run, event_run, run_count, warm_count}
use Rattle.energy.specs.Line.{by_fault}
use Rattle.energy.specs.Spared.{spared_of}
use Rattle.energy.specs.Trimmed.{largest_of, trimmed_of}
use Rattle.energy.specs.declared.days.Day.{Day}
use Rattle.energy.specs.Event.{Event}
use Rattle.energy.specs.declared.hours.Hours.{Hours}

-- the numbers of some days, and their parts
abbrev pub numbers_of : List Day → List ℕ
numbers_of days = map (λ (d : Day). d.number) days

abbrev pub parts_of : List Day → List (List ℕ)
parts_of days = map (λ (d : Day). d.readings.now) days

-- a fault, or where there is none the first one of the same hours of some days, each told at its place in the book
unfoldable pub parts_fault : List ℕ → Option Fault → List ℕ → List (List ℕ) → Option Fault
parts_fault hours f [] ps = f
parts_fault hours f (d ∷ ds) [] = f
parts_fault hours f (d ∷ ds) (p ∷ ps) = parts_fault hours (or_fault f (fault_on d (first_fault p hours))) ds ps

-- the highest reading of an hour in some parts
unfoldable pub highest_at : List (List ℕ) → ℕ → ℕ
highest_at parts h = largest_of (map (λ (p : List ℕ). reading_at p h) parts)

-- whether some parts have readings at all of some hours
unfoldable pub all_readings : List (List ℕ) → List ℕ → Bool
all_readings parts [] = true
all_readings parts (h ∷ hours) = is_reading (highest_at parts h) && all_readings parts hours

-- T of an hour, from the parts of the reference days
unfoldable pub trimmed_in : List (List ℕ) → ℕ → ℕ
trimmed_in parts h = trimmed_of (map (λ (p : List ℕ). reading_at p h) parts)

-- the spared energy, from the event day's part and those of the reference days
unfoldable pub parts_energy : Hours → List ℕ → List (List ℕ) → ℕ
parts_energy hours event parts =
    spared_of (run_count hours.event) (warm_count hours)
    (sum_over (trimmed_in parts) (event_run hours))
    (sum_over (trimmed_in parts) (warm_run hours))
    (sum_over (reading_at event) (warm_run hours))
    (sum_over (reading_at event) (event_run hours))

-- the line, from the parts of the event day and of the reference days
unfoldable pub parts_line : ℕ → List ℕ → Hours → List ℕ → List (List ℕ) → Event
parts_line day refs hours event parts =
    by_fault (parts_fault (warm_run hours ++ event_run hours) None (day ∷ refs) (event ∷ parts)) (parts_energy hours event parts)
