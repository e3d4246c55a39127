-- What is read of a book, or of a day's part of one: the first fault among some places, and sums over hours.
-- Assumes nothing.
use Rattle.std.specs.Prelude.{ℕ, ◌+◌, ◌-◌, ◌*◌, ◌^◌, ◌≤◌, List, [], ◌∷◌, Option, None, ◌≡◌, get_or}
use Rattle.book.specs.Places.{hour_place, run}
use Rattle.book.specs.Values.{fault_of, or_fault}
use Rattle.book.specs.declared.values.Fault.{Fault}

-- what stands at a place; 0 past the end, where nothing stands, so that it is no fault and adds nothing (rule 2.9)
abbrev pub reading_at : List ℕ → ℕ → ℕ
reading_at values p = get_or values p 0

-- a day's own reading of an hour (rule 2.3)
abbrev pub drawn_at : List ℕ → ℕ → ℕ → ℕ
drawn_at book day h = reading_at book (hour_place day h)

-- rule 2.9: the first value at fault among some places
unfoldable pub first_fault : List ℕ → List ℕ → Option Fault
first_fault values [] = None
first_fault values (p ∷ places) = or_fault (fault_of (reading_at values p) p) (first_fault values places)

-- the sum over some hours of what each has
unfoldable pub sum_over : (ℕ → ℕ) → List ℕ → ℕ
sum_over f [] = 0
sum_over f (h ∷ hours) = f h + sum_over f hours

-- the sum of the values from one index up to another, each below 2^32
pub record RunSum (values : List ℕ) (from to sum : ℕ) : Type 0 where
  pub is : sum ≡ sum_over (reading_at values) (run from to)
  pub most : sum ≤ (to - from) * 2 ^ 32
