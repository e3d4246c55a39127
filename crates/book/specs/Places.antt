-- The places of hours in a book.
-- Assumes nothing.
use Rattle.std.specs.Prelude.{ℕ, zero, suc, ◌+◌, ◌-◌, ◌*◌, ◌<◌, List, [], ◌∷◌, ◌++◌, map}
use Rattle.book.specs.Length.{day_hours}

-- rule 1.15: an hour of a day
abbrev pub InDay : ℕ → Type 0
InDay h = h < day_hours

-- rule 2.3: the place of an hour
abbrev pub hour_place : ℕ → ℕ → ℕ
hour_place day hour = day_hours * day + hour

-- n numbers from h on, ascending: hours of a day, or places of a book
unfoldable pub hours_from : ℕ → ℕ → List ℕ
hours_from h zero = []
hours_from h (suc n) = h ∷ hours_from (suc h) n

-- those from one up to another, which is not one of them
unfoldable pub run : ℕ → ℕ → List ℕ
run from to = hours_from from (to - from)

-- the places of some hours of a day
abbrev pub places_of : ℕ → List ℕ → List ℕ
places_of d hours = map (λ (h : ℕ). hour_place d h) hours

-- and of the same hours of each of some days
unfoldable pub places_on : List ℕ → List ℕ → List ℕ
places_on hours [] = []
places_on hours (d ∷ ds) = places_of d hours ++ places_on hours ds
