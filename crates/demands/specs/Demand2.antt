-- Demand 2 (rules 10.4 and 10.5), of the lines of an accepted list: each says what its event spared by the formula, or which needed reading is the
-- first that is no reading. Its reference days are said by the calendar and the notices of the list.
-- Assumes nothing.
use Rattle.std.specs.Prelude.{ℕ, ◌*◌, ◌%◌, ◌<◌, true, false, ◌⊎◌, ◌↔◌, ◌≡◌, length, get_or}
use mathlib.Core.List.{List, Memᴰ}
use Rattle.book.proofs.FirstFault.{Holds, FaultyAt}
use Rattle.book.specs.Readings.{reading_at}
use Rattle.book.specs.Values.{largest_reading, missing_mark}
use Rattle.calendar.specs.Clocks.{has_hour}
use Rattle.calendar.specs.Excluded.{excluded}
use Rattle.calendar.specs.Weekdays.{weekend}
use Rattle.calendar.specs.WinterOf.{winter_of}
use Rattle.energy.specs.Asked.{Asked, asked_with, needed}
use Rattle.energy.specs.Energy.{energy_of}
use Rattle.event_hours.proofs.FreeDays.{NoEvent}
use Rattle.laws.proofs.Every.{Every}
use Rattle.notices.specs.Notices.{count_of, notice_at}
use Rattle.notices.specs.declared.notices.Notice.{Notice}
use Rattle.references.specs.WarmUp.{warm_up}
use Rattle.demands.specs.Clocks.{Unread}
use Rattle.demands.specs.Faces.{Sheet}

-- rule 5.4: day d serves an event that starts at hour s of a day: it is earlier and of its kind, no notice of the list is on it, it is not
-- excluded, and it has each warm-up hour of the event
pub record Serves (winter : ℕ) (list : List ℕ) (day s d : ℕ) : Type 0 where
  pub earlier : d < day
  pub same_kind : weekend (winter_of winter) d ≡ weekend (winter_of winter) day
  pub no_event : NoEvent list d
  pub open_day : excluded (winter_of winter) d ≡ false
  pub has_hours : Every (λ (h : ℕ). has_hour (winter_of winter) d h ≡ true) (warm_up (winter_of winter) day s)

-- rule 5.6: the five nearest days that serve, nearest first: any other that serves is before all of them
pub record FiveNearest (winter : ℕ) (list : List ℕ) (day s : ℕ) (refs : List ℕ) : Type 0 where
  pub five : length refs ≡ 5
  pub each : Every (Serves winter list day s) refs
  pub nearest_first : (i j : ℕ) → i < j → j < length refs → get_or refs j 0 < get_or refs i 0
  pub no_nearer : (d : ℕ) → Serves winter list day s d → (Memᴰ d refs → ⊥) → Every (λ (r : ℕ). d < r) refs

-- rules 5.9, 5.10 and 5.11, a line that is left unsettled: no energy, and the first needed place that holds no reading, with 21 where it is
-- missing and 22 where it is too large
pub record Unsettled (book places : List ℕ) (code place energy : ℕ) : Type 0 where
  pub no_energy : energy ≡ 0
  pub first : FaultyAt book places place
  pub why : ((code ≡ 21) × (reading_at book place ≡ missing_mark))
      ⊎ ((code ≡ 22) × (largest_reading < reading_at book place) × (reading_at book place ≡ missing_mark → ⊥))

-- code, place and energy by what is asked of the book: settled exactly where every needed reading is one, and then by the formula, whose factor
-- 6H/W is a whole number
pub record SaysOf (book : List ℕ) (asked : Asked) (code place energy : ℕ) : Type 0 where
  pub settled_iff : (code ≡ 0) ↔ Every (Holds book) (needed asked)
  pub settled : code ≡ 0 → (place ≡ 0) × (energy ≡ energy_of book asked)
  pub whole_factor : 6 * length asked.event % length asked.warm ≡ 0
  pub unsettled : (code ≡ 0 → ⊥) → Unsettled book (needed asked) code place energy

-- the line of an event. Code 20 (rule 5.8) is never given: there are always five reference days
pub record EventLine (winter : ℕ) (book list : List ℕ) (n : Notice) (code place energy : ℕ) : Type 0 where
  pub refs : List ℕ
  pub nearest : FiveNearest winter list n.day n.start refs
  pub says : SaysOf book (asked_with (winter_of winter) n refs) code place energy
  pub unread : Unread winter (needed (asked_with (winter_of winter) n refs))

-- all lines of a sheet: one for each notice, in their order
pub record Demand2 (winter : ℕ) (book list : List ℕ) (s : Sheet) : Type 0 where
  pub as_many : s.lines ≡ count_of list
  pub each : (k : ℕ) → k < count_of list → EventLine winter book list (notice_at list k) (s.code k) (s.place k) (s.energy k)
