-- Where the highest reading of each hour is one, all are, and there is no fault on any day: one law for an hour more, for an hour that has none and
-- for the end.
-- Assumes nothing.
use Prim.Native.Nat.{ℕ, ◌+◌, ◌≤◌, ◌<◌}
use mathlib.Core.Bool.{Bool, true, false, ◌&&◌, and_assoc}
use mathlib.Core.List.{List, [], ◌∷◌, ◌++◌, map}
use mathlib.Core.Path.{◌≡◌, refl, sym, ap}
use native.Mathlib.Omega.{arith}
use borrow.Author.Tests.{leb-true}
use Rattle.book.proofs.RunLaws.{run_more, run_none}
use Rattle.book.proofs.FirstFault.{Holds, no_fault}
use Rattle.book.specs.Places.{run}
use Rattle.book.specs.Readings.{reading_at}
use Rattle.book.specs.Values.{largest_reading, is_reading}
use Rattle.std.specs.Prelude.{None}
use Rattle.laws.proofs.Every.{Every, joined, imply, mapped}
use Rattle.laws.proofs.Guards.{both}
use Rattle.energy.specs.HoursOf.{run_hours, warm_run, event_run}
use Rattle.energy.specs.Line.{by_fault}
use Rattle.energy.specs.Parts.{parts_fault, highest_at, all_readings, parts_energy, parts_line}
use Rattle.energy.specs.Trimmed.{largest_of}
use Rattle.energy.specs.declared.hours.Hours.{Hours}

-- an hour more, whose highest reading is `high`
module _ (parts : List (List ℕ)) (h to : ℕ) (b : h < to) (high : ℕ) (is : high ≡ highest_at parts h) where
  pub one_reading : is_reading high ≡ true → all_readings parts (run (h + 1) to) ≡ all_readings parts (run h to)
  unfolding all_readings
  one_reading t = rw (run_more h to b, ← is, t)

  pub one_not : is_reading high ≡ false → false ≡ all_readings parts (run h to)
  unfolding all_readings
  one_not t = rw (run_more h to b, ← is, t)

pub no_hour : (parts : List (List ℕ)) (h to : ℕ) → to ≤ h → true ≡ all_readings parts (run h to)
unfolding all_readings
no_hour parts h to b = rw (run_none h to b)

-- the warm-up hours: both runs
all_joined : (parts : List (List ℕ)) (xs ys : List ℕ) → all_readings parts (xs ++ ys) ≡ (all_readings parts xs && all_readings parts ys)
unfolding all_readings
all_joined parts [] ys = refl
all_joined parts (h ∷ xs) ys = rw (all_joined parts xs ys) (sym (and_assoc (is_reading (highest_at parts h)) (all_readings parts xs) (all_readings parts ys)))

pub warm_all : (parts : List (List ℕ)) (hours : Hours) {early warm : Bool}
    → early ≡ all_readings parts (run_hours hours.early) → warm ≡ all_readings parts (run_hours hours.warm)
    → (early && warm) ≡ all_readings parts (warm_run hours)
warm_all parts hours e is = rw (all_joined parts (run_hours hours.early) (run_hours hours.warm), ← e, ← is)

-- where the highest is a reading each is
each_most : (m : ℕ) (xs : List ℕ) → largest_of xs ≤ m → Every (λ (x : ℕ). x ≤ m) xs
unfolding largest_of
each_most m [] h = tt
each_most m (x ∷ []) h = (h, tt)
each_most m (x ∷ y ∷ ys) h = (omega arith, each_most m (y ∷ ys) (omega arith))

-- all the readings of an hour, and of an hour in each part
abbrev HourHolds : List (List ℕ) → ℕ → Type 0
HourHolds parts h = Every (λ (p : List ℕ). Holds p h) parts

hours_hold : (parts : List (List ℕ)) (hours : List ℕ) → all_readings parts hours ≡ true → Every (HourHolds parts) hours
unfolding all_readings highest_at
hours_hold parts [] e = tt
hours_hold parts (h ∷ hours) e =
    let all = both (is_reading (highest_at parts h)) (all_readings parts hours) e in
    let most = each_most largest_reading (map (λ (p : List ℕ). reading_at p h) parts) (leb-true (highest_at parts h) largest_reading all.0) in
    (mapped _ (λ (p : List ℕ). reading_at p h) parts most, hours_hold parts hours all.1)

clean_days : (hours ds : List ℕ) (parts : List (List ℕ)) → Every (HourHolds parts) hours → None ≡ parts_fault hours None ds parts
unfolding parts_fault
clean_days hours [] parts all = refl
clean_days hours (d ∷ ds) [] all = refl
clean_days hours (d ∷ ds) (p ∷ ps) all =
    rw (no_fault p hours (imply (HourHolds (p ∷ ps)) (Holds p) (λ h x. x.0) hours all))
    (clean_days hours ds ps (imply (HourHolds (p ∷ ps)) (HourHolds ps) (λ h x. x.1) hours all))

all_clean : (xs ys ds : List ℕ) (parts : List (List ℕ)) → all_readings parts xs ≡ true → all_readings parts ys ≡ true
    → None ≡ parts_fault (xs ++ ys) None ds parts
all_clean xs ys ds parts first second =
    clean_days (xs ++ ys) ds parts (joined (HourHolds parts) xs ys (hours_hold parts xs first) (hours_hold parts ys second))

-- and so the event is settled
pub clean_line : (day : ℕ) (refs : List ℕ) (hours : Hours) (event : List ℕ) (parts : List (List ℕ)) {energy : ℕ} → energy ≡ parts_energy hours event parts
    → all_readings (event ∷ parts) (warm_run hours) ≡ true → all_readings (event ∷ parts) (event_run hours) ≡ true
    → by_fault None energy ≡ parts_line day refs hours event parts
unfolding parts_line
clean_line day refs hours event parts e warm own =
    rw (← all_clean (warm_run hours) (event_run hours) (day ∷ refs) (event ∷ parts) warm own) (ap (by_fault None) e)
