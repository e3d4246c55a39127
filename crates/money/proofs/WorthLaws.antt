-- Laws of the rounded worth: it is the nearest number of cents, halves up; it grows with the energy; and the difference of two is within one
-- cent of the exact worth of the energy between them.
-- Assumes nothing.
use Prim.Native.Nat.{ℕ, ◌+◌, ◌-◌, ◌*◌, ◌≤◌}
use mathlib.Core.Path.{◌≡◌, refl}
use native.Mathlib.Nat.{add-mul, zero-mul, mul-le-mul}
use native.Mathlib.Omega.{arith}
use Rattle.money.specs.Near.{Near, NearHalf}
use Rattle.money.specs.Nearest.{Nearest}
use Rattle.money.specs.Price.{highest_price}
use Rattle.money.specs.Worth.{cent_parts, exact_worth, rounded_worth, most_energy}
use Rattle.money.proofs.NearestLaws.{nearest_whole_lem}

pub worth_nearest : (p e : ℕ) → Nearest (exact_worth p e) cent_parts (rounded_worth p e)
unfolding rounded_worth
worth_nearest p e = nearest_whole_lem (exact_worth p e) cent_parts (omega arith)

pub worth_zero : (p : ℕ) → rounded_worth p 0 ≡ 0
unfolding rounded_worth
worth_zero p = rw zero-mul refl

pub worth_grows : (p s e : ℕ) → rounded_worth p s ≤ rounded_worth p (s + e)
unfolding rounded_worth
worth_grows p s e = rw add-mul (omega arith)

pub between_near : (p s e : ℕ) → Near (cent_parts * (rounded_worth p (s + e) - rounded_worth p s)) (exact_worth p e) cent_parts
unfolding rounded_worth
between_near p s e = rw add-mul (record { above = omega arith; below = omega arith })

pub first_near : (p e : ℕ) → NearHalf (cent_parts * rounded_worth p e) (exact_worth p e) cent_parts
first_near p e = let n = worth_nearest p e in record { above = n.above; below = omega (arith, n.below) }

-- no overflow: the most energy at the highest price stays below 2 ^ 58, before and after halves are added
pub worth_fits : (p e : ℕ) → p ≤ highest_price → e ≤ most_energy → exact_worth p e ≤ 150000000000000000
worth_fits p e hp he = omega (arith, mul-le-mul he hp)
