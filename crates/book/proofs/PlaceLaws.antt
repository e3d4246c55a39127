-- Laws of the places of hours: what holds of every place of some hours of some days holds at each hour on each day, and back; and the places of
-- a run of hours are a run of places.
-- Assumes nothing.
use Prim.Native.Nat.{ℕ, zero, suc, ◌-◌, ◌*◌}
use mathlib.Core.List.{List, [], ◌∷◌}
use mathlib.Core.Path.{◌≡◌, refl}
use native.Mathlib.Nat.{add-suc}
use native.Mathlib.Omega.{arith}
use Rattle.laws.proofs.Every.{Every, left, right, joined, mapped, map_of, both, all}
use Rattle.book.specs.Length.{day_hours}
use Rattle.book.specs.Places.{hour_place, hours_from, run, places_of, places_on}

-- from "day by day, each its hours" to "hour by hour, each its days"
pub at_hours : (P : ℕ → Type 0) (hours ds : List ℕ) → Every P (places_on hours ds) → Every (λ (h : ℕ). Every (λ (d : ℕ). P (hour_place d h)) ds) hours
unfolding places_on
at_hours P hours [] a = all (λ (h : ℕ). Unit {0}) (λ h. tt) hours
at_hours P hours (d ∷ ds) a =
    both (λ (h : ℕ). P (hour_place d h))
    (λ (h : ℕ). Every (λ (d : ℕ). P (hour_place d h)) ds)
    hours
    (mapped P (λ (h : ℕ). hour_place d h) hours (left P (places_of d hours) (places_on hours ds) a))
    (at_hours P hours ds (right P (places_of d hours) (places_on hours ds) a))

-- and back: what holds at each hour on each day holds of every place
pub on_days : (P : ℕ → Type 0) (hours ds : List ℕ) → Every (λ (d : ℕ). Every (λ (h : ℕ). P (hour_place d h)) hours) ds → Every P (places_on hours ds)
unfolding places_on
on_days P hours [] a = tt
on_days P hours (d ∷ ds) a =
    joined P (places_of d hours) (places_on hours ds) (map_of P (λ (h : ℕ). hour_place d h) hours a.0) (on_days P hours ds a.1)

places_from : (d h n : ℕ) → places_of d (hours_from h n) ≡ hours_from (hour_place d h) n
unfolding hours_from
places_from d h zero = refl
places_from d h (suc n) = rw (places_from d (suc h) n, add-suc (day_hours * d) h)

pub places_run : (d s e : ℕ) → places_of d (run s e) ≡ run (hour_place d s) (hour_place d e)
unfolding run
places_run d s e = let n : hour_place d e - hour_place d s ≡ e - s = omega arith in rw n (places_from d s (e - s))
