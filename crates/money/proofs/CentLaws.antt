-- Demand 3 over any energies in a row: over a run of them the cents telescope, so that they are the difference of two rounded worths, which
-- is within a cent of the exact worth of the run, and within half a cent if the run starts at the first.
-- Assumes nothing.
use Prim.Native.Nat.{ℕ, suc, ◌+◌, ◌-◌, ◌*◌}
use mathlib.Core.Path.{◌≡◌, refl}
use native.Mathlib.Nat.{zero-add}
use native.Mathlib.Omega.{arith}
use Rattle.laws.proofs.SumLaws.{sum_none, sum_next, sum_run, run_first, run_carries}
use Rattle.laws.specs.Sums.{sum_to, run_of}
use Rattle.money.specs.Cents.{cents_at}
use Rattle.money.specs.Worth.{cent_parts, exact_worth, rounded_worth}
use Rattle.money.specs.Near.{Near, NearHalf}
use Rattle.money.proofs.WorthLaws.{worth_zero, worth_grows, between_near, first_near}

module _ (p : ℕ) (energy_at : ℕ → ℕ) where
  -- no cents are negative: the worth with an energy is what it was before, and the energy's cents
  pub cents_next : (k : ℕ) → rounded_worth p (sum_to energy_at k) + cents_at p energy_at k ≡ rounded_worth p (sum_to energy_at (suc k))
  unfolding cents_at
  cents_next k = rw (sum_next energy_at k) (omega (arith, worth_grows p (sum_to energy_at k) (energy_at k)))

  cents_run : (i n : ℕ) → rounded_worth p (sum_to energy_at i) + run_of (cents_at p energy_at) i n ≡ rounded_worth p (sum_to energy_at (i + n))
  cents_run = run_carries (cents_at p energy_at) (λ (k : ℕ). rounded_worth p (sum_to energy_at k)) cents_next

  pub cents_first : (n : ℕ) → run_of (cents_at p energy_at) 0 n ≡ rounded_worth p (sum_to energy_at n)
  cents_first n = let e = cents_run 0 n in omega (arith, worth_zero p, rw (zero-add n, sum_none energy_at) at e)

  pub run_near : (i n : ℕ) → Near (cent_parts * run_of (cents_at p energy_at) i n) (exact_worth p (run_of energy_at i n)) cent_parts
  run_near i n =
      let before = sum_to energy_at i in
      let energy = run_of energy_at i n in
      let c : rounded_worth p before + run_of (cents_at p energy_at) i n ≡ rounded_worth p (before + energy) = rw (sum_run energy_at i n) (cents_run i n) in
      let d = between_near p before energy in
      record { above = omega (arith, d.above, c); below = omega (arith, d.below, c) }

  pub first_run_near : (n : ℕ) → NearHalf (cent_parts * run_of (cents_at p energy_at) 0 n) (exact_worth p (run_of energy_at 0 n)) cent_parts
  first_run_near n = rw (cents_first n, run_first energy_at n) (first_near p (sum_to energy_at n))

-- what the cents of an energy are
pub cents_are : (p : ℕ) (energy_at : ℕ → ℕ) (k : ℕ) → rounded_worth p (sum_to energy_at (suc k)) - rounded_worth p (sum_to energy_at k) ≡ cents_at p energy_at k
unfolding cents_at
cents_are p energy_at k = refl

-- cents go by the energies that they are of
pub cents_same : (p : ℕ) (f g : ℕ → ℕ) (k : ℕ) → sum_to f (suc k) ≡ sum_to g (suc k) → sum_to f k ≡ sum_to g k → cents_at p f k ≡ cents_at p g k
unfolding cents_at
cents_same p f g k e before = rw (e, before)
