-- Laws of a run of hours: it is its first hour and the rest, or two runs one behind the other, as many hours as asked for; and what holds from
-- one hour up to another holds of each of its hours.
-- Assumes nothing.
use Prim.Native.Nat.{ℕ, zero, suc, ◌+◌, ◌-◌, ◌≤◌, ◌<◌}
use mathlib.Core.List.{List, [], ◌∷◌, ◌++◌}
use mathlib.Core.Path.{◌≡◌, refl, ap}
use native.Mathlib.Numerals.{add-one}
use native.Mathlib.Omega.{arith}
use lib.ListN.{length}
use Rattle.laws.proofs.Every.{Every}
use Rattle.book.specs.Length.{day_hours}
use Rattle.book.specs.Places.{InDay, hours_from, run}

pub hours_long : (h n : ℕ) → length (hours_from h n) ≡ n
unfolding hours_from
hours_long h zero = refl
hours_long h (suc n) = ap suc (hours_long (suc h) n)

pub run_from : (from to n : ℕ) → to - from ≡ n → run from to ≡ hours_from from n
unfolding run
run_from from to n e = rw e

pub run_long : (from to : ℕ) → length (run from to) ≡ to - from
unfolding run
run_long from to = hours_long from (to - from)

-- what holds of each
pub hours_each : (P : ℕ → Type 0) (h n : ℕ) → ((x : ℕ) → h ≤ x → x < h + n → P x) → Every P (hours_from h n)
unfolding hours_from
hours_each P h zero each = tt
hours_each P h (suc n) each = (each h (omega arith) (omega arith), hours_each P (suc h) n (λ x from to. each x (omega arith) (omega arith)))

pub run_each : (P : ℕ → Type 0) (from to : ℕ) → ((x : ℕ) → from ≤ x → x < to → P x) → Every P (run from to)
unfolding run
run_each P from to each = hours_each P from (to - from) (λ x f t. each x f (omega arith))

pub hours_below : (h n : ℕ) → h + n ≤ day_hours → Every InDay (hours_from h n)
hours_below h n b = hours_each InDay h n (λ x from to. omega arith)

pub run_below : (from to : ℕ) → from ≤ to → to ≤ day_hours → Every InDay (run from to)
run_below from to h b = run_each InDay from to (λ x f t. omega arith)

-- no hour of a run is before its first
pub run_past : (n from to : ℕ) → n ≤ from → Every (λ (x : ℕ). n ≤ x) (run from to)
run_past n from to b = run_each (λ (x : ℕ). n ≤ x) from to (λ x f t. omega arith)

pub run_more : (h to : ℕ) → h < to → run h to ≡ h ∷ run (h + 1) to
unfolding run hours_from
run_more h to b = let e : to - h ≡ suc (to - (h + 1)) = omega arith in rw (e, add-one h)

pub run_none : (h to : ℕ) → to ≤ h → run h to ≡ []
unfolding run hours_from
run_none h to b = let e : to - h ≡ 0 = omega arith in rw e

-- two runs one behind the other
hours_on : (h n m k : ℕ) → k ≡ h + n → hours_from h (n + m) ≡ hours_from h n ++ hours_from k m
unfolding hours_from
hours_on h zero m k e = let z : k ≡ h = omega arith in let y : zero + m ≡ m = omega arith in rw (z, y)
hours_on h (suc n) m k e =
    let more : suc n + m ≡ suc (n + m) = omega arith in
    rw more (ap (λ (hs : List ℕ). h ∷ hs) (hours_on (suc h) n m k (omega arith)))

pub run_split : (from mid to : ℕ) → from ≤ mid → mid ≤ to → run from to ≡ run from mid ++ run mid to
unfolding run
run_split from mid to a b =
    let e : to - from ≡ mid - from + (to - mid) = omega arith in
    rw e (hours_on from (mid - from) (to - mid) mid (omega arith))
