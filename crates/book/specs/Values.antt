-- What a value of a book is: a reading, the mark of a missing one, or neither.
-- Assumes nothing.
use Rattle.std.specs.Prelude.{ℕ, Bool, true, false, cond, leb, ltb, eqb, Option, Some, None}
use Rattle.book.specs.declared.values.Fault.TheVariants.{Missing, TooLarge}
use Rattle.book.specs.declared.values.Fault.{Fault}

-- rules 2.4 and 2.5: the highest reading, and the mark of a missing one
abbrev pub largest_reading : ℕ
largest_reading = 10000000

abbrev pub missing_mark : ℕ
missing_mark = 4294967295

-- whether a value is a reading (rule 2.4)
abbrev pub is_reading : ℕ → Bool
is_reading v = leb v largest_reading

-- rule 2.6: what is wrong with the value v at place p, if anything
unfoldable pub fault_of : ℕ → ℕ → Option Fault
fault_of v p = cond (eqb v missing_mark) (Some (Missing p)) (cond (ltb largest_reading v) (Some (TooLarge p)) None)

abbrev pub is_clean : Option Fault → Bool
is_clean None = true
is_clean (Some f) = false

-- what holds of the place that a fault tells
abbrev pub AtPlace : (ℕ → Type 0) → Option Fault → Type 0
AtPlace P None = Unit {0}
AtPlace P (Some (Missing p)) = P p
AtPlace P (Some (TooLarge p)) = P p

-- a fault, or the second where the first is none
abbrev pub or_fault : Option Fault → Option Fault → Option Fault
or_fault None g = g
or_fault (Some f) g = Some f
