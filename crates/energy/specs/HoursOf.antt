-- What the code's hours of an event are: its warm-up hours in two runs, of which the first is mostly empty, and its own in one.
-- Assumes nothing.
use Rattle.std.specs.Prelude.{ℕ, ◌+◌, ◌-◌, ◌≤◌, ◌<◌, Bool, ◌&&◌, List, ◌++◌, ◌≡◌, leb, eqb}
use Rattle.book.specs.Length.{day_hours}
use Rattle.book.specs.Places.{hours_from, run}
use Rattle.calendar.specs.Clocks.{clocks_forward, passed_hour}
use Rattle.calendar.specs.declared.answers.Winter.{Winter}
use Rattle.energy.specs.Asked.{Asked}
use Rattle.energy.specs.declared.hours.Hours.{Hours}
use Rattle.energy.specs.declared.hours.Run.{Run}
use Rattle.references.specs.WarmUp.{warm_up}

-- the hours of a run, and how many they are
abbrev pub run_hours : Run → List ℕ
run_hours r = run r.from r.to

abbrev pub run_count : Run → ℕ
run_count r = r.to - r.from

abbrev pub warm_run : Hours → List ℕ
warm_run hours = run_hours hours.early ++ run_hours hours.warm

abbrev pub event_run : Hours → List ℕ
event_run hours = run_hours hours.event

-- W, the number of warm-up hours
abbrev pub warm_count : Hours → ℕ
warm_count hours = run_count hours.early + run_count hours.warm

-- what is asked of a book by an event day, hours and reference days as the code holds them
abbrev pub asked_in : ℕ → Hours → List ℕ → Asked
asked_in day hours refs = record { day = day; warm = warm_run hours; event = event_run hours; refs = refs }

-- hours that lie inside a band: late enough for the warm-up before them, at most four, and inside the day
pub record Spans (start end : ℕ) : Type 0 where
  pub late : 6 ≤ start
  pub some_hour : start < end
  pub few : end - start ≤ 4
  pub in_day : end ≤ 20

-- whether the passed hour lies between the warm-up hours of an event that starts at hour s of a day
unfoldable pub is_split : Winter → ℕ → ℕ → Bool
is_split w day s = leb s (passed_hour + 5) && eqb day (clocks_forward w)

-- what the private functions ask of a run of hours: it lies in the day
pub record RunIn (r : Run) : Type 0 where
  pub in_order : r.from ≤ r.to
  pub in_day : r.to ≤ day_hours

-- and of an event's hours: two warm-up hours at least and four event hours at most
pub record HoursIn (hours : Hours) : Type 0 where
  pub early_in : RunIn hours.early
  pub warm_in : RunIn hours.warm
  pub two_warm : 2 ≤ warm_count hours
  pub event_within : RunIn hours.event
  pub few_event : hours.event.to ≤ hours.event.from + 4

-- the hours of the event from start to end - 1 on a day
pub record HoursFor (w : Winter) (day start end : ℕ) (r : Hours) : Type 0 where
  pub warm_are : warm_run r ≡ warm_up w day start
  pub event_are : event_run r ≡ hours_from start (end - start)
  pub inside : HoursIn r
