-- What the private functions ask of their callers and ensure of their sums. To believe the public contract it need not be read.
-- Assumes nothing.
use Rattle.std.specs.Prelude.{ℕ, ◌*◌, ◌^◌, ◌≤◌, ◌<◌, false, List, Option, ◌≡◌, length, get_or}
use Rattle.std.specs.List.{All}
use Rattle.book.specs.Part.{no_part, PartOf}
use Rattle.book.specs.Places.{InDay}
use Rattle.book.specs.Readings.{sum_over}
use Rattle.book.specs.Values.{AtPlace}
use Rattle.book.specs.declared.values.Fault.{Fault}
use Rattle.calendar.specs.declared.answers.Winter.{Winter}
use Rattle.notices.specs.declared.notices.Notice.{Notice}
use Rattle.energy.specs.HoursOf.{Spans, HoursIn, run_hours, warm_run}
use Rattle.energy.specs.Parts.{trimmed_in}
use Rattle.references.specs.Search.{BookDay}
use Rattle.energy.specs.Trimmed.{trimmed_of}
use Rattle.energy.specs.declared.days.Day.{Day}
use Rattle.energy.specs.declared.days.SixDays.{SixDays}
use Rattle.energy.specs.declared.hours.Hours.{Hours}
use Rattle.energy.specs.declared.hours.Run.{Run}

-- a day whose places are small numbers
abbrev pub DayFits : ℕ → Type 0
DayFits day = day < 152

-- a fault at an hour of such a day
pub record HourTold (day : ℕ) (fault : Option Fault) : Type 0 where
  pub day_fits : DayFits day
  pub in_day : AtPlace InDay fault

-- the hours of such a day
pub record DayReady (day : ℕ) (hours : Hours) : Type 0 where
  pub day_fits : DayFits day
  pub hours_within : HoursIn hours

-- the hours of six such days
pub record DaysReady (days : SixDays) (hours : Hours) : Type 0 where
  pub five_refs : length days.refs ≡ 5
  pub day_fits : DayFits days.event.number
  pub refs_fit : All (λ (d : Day). DayFits d.number) days.refs
  pub hours_within : HoursIn hours

-- an event day and its five reference days have their parts in a winter's book of n numbers
pub record PartsReady (w : Winter) (n day : ℕ) (refs : List ℕ) : Type 0 where
  pub day_there : no_part w n day ≡ false
  pub refs_there : All (λ (d : ℕ). no_part w n d ≡ false) refs

-- a day of the book, with its part
pub record IsDay (book : List ℕ) (number : ℕ) (day : Day) : Type 0 where
  pub number_is : day.number ≡ number
  pub part : PartOf book number day.readings.now

-- an event day and its reference days, each with its part
pub record AreDays (book : List ℕ) (day : ℕ) (refs : List ℕ) (days : SixDays) : Type 0 where
  pub event_is : IsDay book day days.event
  pub long : length days.refs ≡ length refs
  pub refs_are : (k : ℕ) (d : Day) → k < length refs → IsDay book (get_or refs k 0) (get_or days.refs k d)

-- an event whose day has its part in the book, and whose hours lie in a band
pub record EventReady (w : Winter) (numbers : ℕ) (n : Notice) : Type 0 where
  pub book_day : BookDay w n.day
  pub day_there : no_part w numbers n.day ≡ false
  pub spans : Spans n.start n.end

-- T of five readings, each below 2^32
pub record IsTrimmed (five : List ℕ) (t : ℕ) : Type 0 where
  pub is : t ≡ trimmed_of five
  pub small : t < 2 ^ 35

-- its sum over a run of hours of the day
pub record TrimmedSum (parts : List (List ℕ)) (r : Run) (sum : ℕ) : Type 0 where
  pub is : sum ≡ sum_over (trimmed_in parts) (run_hours r)
  pub small : sum < 2 ^ 40

-- a sum over the warm-up hours, which are two runs
pub record WarmSum (f : ℕ → ℕ) (hours : Hours) (sum : ℕ) : Type 0 where
  pub is : sum ≡ sum_over f (warm_run hours)
  pub small : sum < 2 ^ 41

-- H, W, R, B, A and C that no step of the formula wraps with
pub record SumsFit (h w r b a c : ℕ) : Type 0 where
  pub few_hours : h ≤ 4
  pub two_warm : 2 ≤ w
  pub r_small : r < 2 ^ 41
  pub b_small : b < 2 ^ 41
  pub a_small : a < 2 ^ 41
  pub c_small : c < 2 ^ 41

-- two factors and their product
pub record FactorsFit (x k : ℕ) : Type 0 where
  pub x_small : x < 2 ^ 44
  pub k_small : k ≤ 24

pub record IsProduct (x k r : ℕ) : Type 0 where
  pub is : r ≡ x * k
  pub small : r < 2 ^ 49
