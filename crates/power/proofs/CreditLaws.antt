-- Laws of the credit: what the code comes to, that it is nearest to the exact fraction, and that the largest is 46,170,000 cents.
-- Assumes nothing.
use Prim.Native.Nat.{ℕ, zero, suc, ◌+◌, ◌*◌, ◌/◌, ◌≤◌, ◌<◌}
use mathlib.Core.Logic.{⊎_elim}
use mathlib.Core.Path.{◌≡◌, refl}
use native.Mathlib.Nat.{mul-le-mul, mul-le-mul_left}
use native.Mathlib.Omega.{arith}
use borrow.Author.Tests.{eq-eqb, ne_eqb}
use Rattle.laws.proofs.Order.{either_order}
use Rattle.money.proofs.NearestLaws.{nearest_whole_lem}
use Rattle.money.specs.Nearest.{Nearest}
use Rattle.power.specs.Credit.{credit_parts, exact_credit, credit_of, largest_credit}
use Rattle.power.specs.Rates.{kilowatt, rate_of}
use Rattle.power.specs.Ready.{MeanFits}
use Rattle.power.proofs.RateLaws.{rate_last, rate_most}

module _ (sum count : ℕ) where
  pub credit_none : count ≡ 0 → 0 ≡ credit_of sum count
  unfolding credit_of
  credit_none e = rw (eq-eqb count 0 e)

  module _ (some : count ≡ 0 → ⊥) where
    pub credit_is : (rate : ℕ) → rate ≡ rate_of sum count → (sum * rate + credit_parts count / 2) / credit_parts count ≡ credit_of sum count
    unfolding credit_of
    credit_is rate e = rw (ne_eqb count 0 some, e)

    -- rule 11.9: the nearest whole number of cents, halves up
    pub credit_nearest : Nearest (exact_credit sum count) (credit_parts count) (credit_of sum count)
    unfolding credit_of
    credit_nearest = rw (ne_eqb count 0 some) (nearest_whole_lem (exact_credit sum count) (credit_parts count) (omega (arith, some)))

  -- rule 11.11: by the first rate up to 1,799 kW, and by the last above
  module _ (fits : MeanFits sum count) where
    exact_most : exact_credit sum count ≤ largest_credit * credit_parts count
    exact_most =
        ⊎_elim
        (λ (h : 1799 * (kilowatt * count) < sum). rw (← rate_last sum count h) (omega (arith, fits.sum_most)))
        (λ (h : sum ≤ 1799 * (kilowatt * count)). omega (arith, mul-le-mul h (rate_most sum count)))
        (either_order (1799 * (kilowatt * count)) sum)

    -- so nothing wraps, before and after a half is added
    pub exact_fits : (rate : ℕ) → rate ≡ rate_of sum count → sum * rate ≤ 554040000000000
    exact_fits rate e = rw e (omega (arith, exact_most, fits.few))

    no_more : (c : ℕ) → Nearest (exact_credit sum count) (credit_parts count) c → 0 < credit_parts count → c ≤ largest_credit
    no_more c near some =
        ⊎_elim
        (λ (h : largest_credit < c). absurd (omega (arith, exact_most, near.above, mul-le-mul_left (credit_parts count) h)))
        (λ (h : c ≤ largest_credit). h)
        (either_order largest_credit c)

    pub credit_most : credit_of sum count ≤ largest_credit
    credit_most = by count refl
      where
        by : (n : ℕ) → count ≡ n → credit_of sum count ≤ largest_credit
        by zero e = rw (← credit_none e) (omega arith)
        by (suc n) e =
            let some : count ≡ 0 → ⊥ = λ (z : count ≡ 0). omega (arith, e) in
            no_more (credit_of sum count) (credit_nearest some) (omega (arith, e))

pub ruleset credit_laws = (credit_none, credit_is, exact_fits)
