-- The text of some values, in the form of rule 8.3.
-- Assumes nothing.
use Rattle.std.specs.Prelude.{ℕ, ◌≤◌, List, [], ◌∷◌, ◌++◌, map, length}
use Rattle.book.specs.Length.{day_hours}
use Rattle.laws.proofs.Every.{Every}
use Rattle.numerals.specs.Fields.{Small}
use Rattle.numerals.specs.Lines.{Line, line, bytes_of_lines}

pub record EventLine : Type 0 where
  pub day : ℕ
  pub start : ℕ
  pub end : ℕ

pub record ReadLine : Type 0 where
  pub day : ℕ
  pub hour : ℕ
  pub values : List ℕ

pub record Document : Type 0 where
  pub winter : ℕ
  pub price : ℕ
  pub events : List EventLine
  pub reads : List ReadLine

-- rule 2.10: the numbers of a notice
abbrev pub event_numbers : EventLine → List ℕ
event_numbers x = x.day ∷ x.start ∷ x.end ∷ []

-- `event=day,s,e` (rule 8.4)
abbrev pub event_line : EventLine → Line
event_line x = line "event=" (event_numbers x)

-- `read=day,hour,v,..` (rule 8.5)
abbrev pub read_line : ReadLine → Line
read_line x = line "read=" (x.day ∷ x.hour ∷ x.values)

-- rule 8.3: all lines, in their order
unfoldable pub document_lines : Document → List Line
document_lines d =
    line "winter=" (d.winter ∷ [])
    ∷ line "price=" (d.price ∷ [])
    ∷ line "events=" (length d.events ∷ [])
    ∷ (map event_line d.events ++ (line "reads=" (length d.reads ∷ []) ∷ map read_line d.reads))

abbrev pub text_of : Document → List ℕ
text_of d = bytes_of_lines (document_lines d)

pub record SmallEvent (x : EventLine) : Type 0 where
  pub day : Small x.day
  pub start : Small x.start
  pub end : Small x.end

-- rule 8.5: how many values a read line may have
pub record SmallRead (x : ReadLine) : Type 0 where
  pub day : Small x.day
  pub hour : Small x.hour
  pub values : Every Small x.values
  pub some : 1 ≤ length x.values
  pub few : length x.values ≤ day_hours

-- values that can be written in the form
pub record Writable (d : Document) : Type 0 where
  pub winter : Small d.winter
  pub price : Small d.price
  pub count : Small (length d.events)
  pub events : Every SmallEvent d.events
  pub counted : Small (length d.reads)
  pub reads : Every SmallRead d.reads

-- the list of notices (rule 2.11)
unfoldable pub notices_in : List EventLine → List ℕ
notices_in [] = []
notices_in (x ∷ xs) = event_numbers x ++ notices_in xs
