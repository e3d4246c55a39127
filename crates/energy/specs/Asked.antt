-- What an event asks of a book, by the winter, the days that are free of events and the notice alone: its day, its warm-up hours (rules 5.1 and
-- 5.2) and event hours, and its reference days.
-- Assumes nothing.
use Rattle.std.specs.Prelude.{ℕ, ◌-◌, Bool, List, ◌∷◌, ◌++◌}
use Rattle.book.specs.Places.{hours_from, places_on}
use Rattle.calendar.specs.declared.answers.Winter.{Winter}
use Rattle.notices.specs.declared.notices.Notice.{Notice}
use Rattle.references.specs.ReferenceDays.{reference_days}
use Rattle.references.specs.WarmUp.{warm_up}

pub record Asked : Type 0 where
  pub day : ℕ
  pub warm : List ℕ
  pub event : List ℕ
  pub refs : List ℕ

-- by a notice and some reference days
abbrev pub asked_with : Winter → Notice → List ℕ → Asked
asked_with w n refs = record {
  day = n.day;
  warm = warm_up w n.day n.start;
  event = hours_from n.start (n.end - n.start);
  refs = refs;
}

-- by a notice and the days that are free of events
unfoldable pub asked_by : Winter → (ℕ → Bool) → Notice → Asked
asked_by w free n = asked_with w n (reference_days w free n.day n.start)

-- rule 5.7: the places of the needed readings, in the order in which they are looked at
unfoldable pub needed : Asked → List ℕ
needed a = places_on (a.warm ++ a.event) (a.day ∷ a.refs)
