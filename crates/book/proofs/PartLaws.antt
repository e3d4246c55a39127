-- Laws of the day's part: what stands where a book has it; each of its readings is the book's at the hour's place, and so is the first fault
-- among its hours.
-- Assumes nothing.
use Prim.Native.Nat.{ℕ, ◌≤◌, ◌<◌}
use mathlib.Core.Bool.{Bool, true, false, cond, ◌||◌}
use mathlib.Core.List.{List, [], ◌∷◌}
use mathlib.Core.Path.{◌≡◌, refl, ap}
use native.Mathlib.Omega.{arith}
use lib.Dec.{ltb, eqb}
use lib.ListN.{length, length-take, length-drop}
use lib.Seq.{get_or-take, get_or-drop}
use Rattle.std.specs.Prelude.{Option, Some, None}
use Rattle.laws.proofs.Every.{Every, imply}
use Rattle.laws.proofs.Guards.{neither}
use Rattle.calendar.proofs.Promise.{days_few, book_day, day_there}
use Rattle.calendar.specs.Days.{wrong_winter, no_day}
use Rattle.calendar.specs.declared.answers.Winter.{Winter}
use Rattle.book.specs.Length.{book_length, wrong_length}
use Rattle.book.specs.Part.{no_part, day_readings, PartOf, fault_on}
use Rattle.book.specs.Places.{InDay, hour_place, places_of, places_on}
use Rattle.book.specs.Readings.{reading_at, drawn_at, first_fault}
use Rattle.book.specs.Values.{largest_reading, missing_mark, fault_of, or_fault}
use Rattle.book.specs.declared.values.Fault.TheVariants.{Missing, TooLarge}
use Rattle.book.specs.declared.values.Fault.{Fault}
use Rattle.book.proofs.FaultLaws.{faults_joined}
use Rattle.book.proofs.LengthLaws.{right_length, length_right}
use Rattle.book.proofs.PlaceLaws.{on_days}

-- what a book that has the part tells: a winter, 24N numbers, a day of the book
pub record HasPart (w : Winter) (n d : ℕ) : Type 0 where
  pub winter : wrong_winter w ≡ false
  pub whole : n ≡ book_length w.days
  pub day : d < w.days

pub has_part : (w : Winter) (n d : ℕ) → no_part w n d ≡ false → HasPart w n d
unfolding no_part
has_part w n d e =
    let winter_length = neither (wrong_winter w || wrong_length w.days n) (no_day w d) e in
    let winter = neither (wrong_winter w) (wrong_length w.days n) winter_length.0 in
    record { winter = winter.0; whole = right_length w.days n winter.1; day = book_day w d winter_length.1 }

pub part_there : (w : Winter) (n d : ℕ) → wrong_winter w ≡ false → wrong_length w.days n ≡ false → d < w.days → no_part w n d ≡ false
unfolding no_part
part_there w n d right whole day = rw (right, whole, day_there w d day)

pub part_earlier : (w : Winter) (n d c : ℕ) → no_part w n d ≡ false → c ≤ d → no_part w n c ≡ false
part_earlier w n d c e b =
    let there = has_part w n d e in
    part_there w n c there.winter (length_right w.days n there.whole) (omega (arith, there.day))

pub part_day : (w : Winter) (n d : ℕ) → no_part w n d ≡ false → d < 152
part_day w n d e = omega (arith, (has_part w n d e).day, days_few w (has_part w n d e).winter)

-- every hour of some days that the book has is at a place in it
place_in : (w : Winter) (n d h : ℕ) → no_part w n d ≡ false → InDay h → hour_place d h < n
place_in w n d h e b = omega (arith, (has_part w n d e).whole, (has_part w n d e).day)

pub places_in : (w : Winter) (n : ℕ) (hours ds : List ℕ) → Every InDay hours → Every (λ (d : ℕ). no_part w n d ≡ false) ds
    → Every (λ (p : ℕ). p < n) (places_on hours ds)
places_in w n hours ds in_day there =
    on_days (λ (p : ℕ). p < n) hours ds (imply _ _ (λ d e. imply _ _ (λ h b. place_in w n d h e b) hours in_day) ds there)

pub part_of_book : (w : Winter) (book : List ℕ) (d : ℕ) {p : List ℕ} → no_part w (length book) d ≡ false → p ≡ day_readings w book d → PartOf book d p
unfolding day_readings
part_of_book w book d e q =
    let there = has_part w (length book) d e in
    record {
      long = rw (q, e) (simp (length-take, length-drop) (omega (arith, there.whole, there.day)));
      each = λ (h : ℕ) (b : InDay h). rw (q, e, get_or-take, get_or-drop);
    }

-- the first fault among the same hours of some days: of the first day, or else of the others
module _ (book hours : List ℕ) where
  pub no_days : first_fault book (places_on hours []) ≡ None
  unfolding places_on first_fault
  no_days = refl

  pub day_first : (d : ℕ) (ds : List ℕ)
      → first_fault book (places_on hours (d ∷ ds)) ≡ or_fault (first_fault book (places_of d hours)) (first_fault book (places_on hours ds))
  unfolding places_on
  day_first d ds = faults_joined book (places_of d hours) (places_on hours ds)

-- a part's fault told at its place is the book's
on_or : (d : ℕ) (f g : Option Fault) → fault_on d (or_fault f g) ≡ or_fault (fault_on d f) (fault_on d g)
on_or d None g = refl
on_or d (Some (Missing h)) g = refl
on_or d (Some (TooLarge h)) g = refl

value_on : (d v h : ℕ) → fault_on d (fault_of v h) ≡ fault_of v (hour_place d h)
unfolding fault_of
value_on d v h = by (eqb v missing_mark) (ltb largest_reading v)
  where
    by : (missing large : Bool) → fault_on d (cond missing (Some (Missing h)) (cond large (Some (TooLarge h)) None))
        ≡ cond missing (Some (Missing (hour_place d h))) (cond large (Some (TooLarge (hour_place d h))) None)
    by true large = refl
    by false true = refl
    by false false = refl

pub part_fault : (book : List ℕ) (d : ℕ) {p : List ℕ} → PartOf book d p → (hours : List ℕ) → Every InDay hours
    → fault_on d (first_fault p hours) ≡ first_fault book (places_of d hours)
unfolding first_fault
part_fault book d is [] in_day = refl
part_fault book d {p} is (h ∷ hours) in_day =
    rw (on_or d (fault_of (reading_at p h) h) (first_fault p hours), value_on d (reading_at p h) h, is.each h in_day.0)
    (ap (λ (f : Option Fault). or_fault (fault_of (drawn_at book d h) (hour_place d h)) f) (part_fault book d is hours in_day.1))
