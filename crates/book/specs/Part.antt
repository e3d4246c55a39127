-- The day's part of a book.
-- Assumes nothing.
use Rattle.std.specs.Prelude.{ℕ, Bool, cond, ◌||◌, List, [], ◌≡◌, Option, Some, None, length, take, drop}
use Rattle.calendar.specs.Days.{wrong_winter, no_day}
use Rattle.calendar.specs.declared.answers.Winter.{Winter}
use Rattle.book.specs.Length.{day_hours, book_length, wrong_length}
use Rattle.book.specs.Places.{InDay, hour_place}
use Rattle.book.specs.Readings.{reading_at, drawn_at}
use Rattle.book.specs.declared.values.Fault.TheVariants.{Missing, TooLarge}
use Rattle.book.specs.declared.values.Fault.{Fault}

-- rule 2.8: a book of n numbers has no part for day d of the winter
unfoldable pub no_part : Winter → ℕ → ℕ → Bool
no_part w n d = wrong_winter w || wrong_length w.days n || no_day w d

-- rule 2.7: the numbers of a day; none where there is no part
unfoldable pub day_readings : Winter → List ℕ → ℕ → List ℕ
day_readings w book d = cond (no_part w (length book) d) [] (take day_hours (drop (book_length d) book))

-- the index in the book at which that part starts; the empty part lies at the book's start (rule 2.8)
unfoldable pub part_start : Winter → ℕ → ℕ → ℕ
part_start w n d = cond (no_part w n d) 0 (book_length d)

-- p is the part of day d: 24 readings, and each the book's at the hour's place
pub record PartOf (book : List ℕ) (d : ℕ) (p : List ℕ) : Type 0 where
  pub long : length p ≡ day_hours
  pub each : (h : ℕ) → InDay h → reading_at p h ≡ drawn_at book d h

-- a fault at an hour of the part of day d, told at its place in the book (rule 2.3)
abbrev pub fault_on : ℕ → Option Fault → Option Fault
fault_on d None = None
fault_on d (Some (Missing h)) = Some (Missing (hour_place d h))
fault_on d (Some (TooLarge h)) = Some (TooLarge (hour_place d h))
