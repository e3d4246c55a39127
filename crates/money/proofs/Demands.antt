-- Demand 3 of an accepted call, said of the numbers that stand in its output: the cents of every run of energies are near their exact worth, none are
-- negative, and together they are the total.
-- Assumes nothing.
use Prim.Native.Nat.{ℕ, suc, ◌+◌, ◌*◌, ◌≤◌, ◌<◌, ◌^◌}
use mathlib.Core.Bool.{false}
use mathlib.Core.List.{List}
use mathlib.Core.Path.{◌≡◌}
use native.Mathlib.Nat.{le_trans, mul-le-mul_right}
use native.Mathlib.Omega.{arith}
use lib.ListN.{length, drop}
use lib.Seq.{drop_at}
use Rattle.laws.proofs.RowLaws.{ones_in, ones_long}
use Rattle.laws.proofs.SumLaws.{run_same, run_first, sum_bounded}
use Rattle.laws.specs.Bounds.{largest_energy}
use Rattle.laws.specs.Sums.{sum_to, run_of}
use Rattle.laws.specs.Table.{is_refusal}
use Rattle.money.specs.Cents.{cents_at, row_energy, cents_to, cents_in, cents_for}
use Rattle.money.specs.Near.{Near, NearHalf}
use Rattle.money.specs.Pricing.{cents_of, cents_written}
use Rattle.money.specs.Refusals.{cents_refusal}
use Rattle.money.specs.Worth.{cent_parts, exact_worth, rounded_worth, most_energy}
use Rattle.money.proofs.CentLaws.{cents_next, cents_first, run_near, first_run_near}
use Rattle.money.proofs.PricingLaws.{number_is, answer_accepted, written_accepted}
use Rattle.money.proofs.RefusalLaws.{unrefused_priceable}
use Rattle.money.proofs.WorthLaws.{worth_nearest, worth_fits}

module _ (p : ℕ) (energies out : List ℕ) (ok : (cents_of p energies (length out)).number ≡ 0) where
  abbrev n : ℕ
  n = length energies

  abbrev output : List ℕ
  output = cents_written p energies out

  none : is_refusal (cents_refusal p energies (length out)) ≡ false
  none = number_is p energies (length out) ok

  output_is : output ≡ cents_in p energies out
  output_is = written_accepted p energies out none

  -- what stands at each index
  pub cents_are_at : (k : ℕ) → k < n → cents_for output k ≡ cents_at p (row_energy energies) k
  cents_are_at k h = rw output_is (ones_in (cents_at p (row_energy energies)) (drop n out) n k h)

  cents_run_is : (i k : ℕ) → i + k ≤ n → run_of (cents_for output) i k ≡ run_of (cents_at p (row_energy energies)) i k
  cents_run_is i k h = run_same (cents_for output) (cents_at p (row_energy energies)) i k (λ j b. cents_are_at j (omega arith))

  -- as rule 10.6: any run of energies, to less than a cent
  pub run_within_a_cent : (i k : ℕ) → i + k ≤ n
      → Near (cent_parts * run_of (cents_for output) i k) (exact_worth p (run_of (row_energy energies) i k)) cent_parts
  run_within_a_cent i k h = rw (cents_run_is i k h) (run_near p (row_energy energies) i k)

  -- as rule 10.7: one that begins with the first energy, to half a cent
  pub first_run_within_half : (k : ℕ) → k ≤ n
      → NearHalf (cent_parts * run_of (cents_for output) 0 k) (exact_worth p (run_of (row_energy energies) 0 k)) cent_parts
  first_run_within_half k h = rw (cents_run_is 0 k (omega arith)) (first_run_near p (row_energy energies) k)

  -- as rule 10.8: its cents are the whole way from the rounded worth before it to the rounded worth with it, and nothing was cut off
  pub none_negative : (k : ℕ) → k < n
      → rounded_worth p (run_of (row_energy energies) 0 k) + cents_for output k ≡ rounded_worth p (run_of (row_energy energies) 0 (suc k))
  none_negative k h = rw (cents_are_at k h, run_first (row_energy energies) k, run_first (row_energy energies) (suc k)) (cents_next p (row_energy energies) k)

  -- as rule 10.9: all cents together are the total
  pub cents_add_up : run_of (cents_for output) 0 n ≡ (cents_of p energies (length out)).cents
  cents_add_up = rw (cents_run_is 0 n (omega arith), cents_first p (row_energy energies) n, answer_accepted p energies (length out) none)

  -- what stands behind the cents stays
  pub past_untouched : drop n output ≡ drop n out
  past_untouched = rw output_is (drop_at (cents_to p energies) (drop n out) n (ones_long (cents_at p (row_energy energies)) n))

  -- the cents fit 64 bits: they are at most what all energies are worth at the highest price
  pub cents_fit : (k : ℕ) → k < n → cents_for output k < 2 ^ 64
  cents_fit k h =
      let can = unrefused_priceable p energies (length out) none in
      let energy = sum_to (row_energy energies) (suc k) in
      let few : energy ≤ most_energy = le_trans (sum_bounded (row_energy energies) largest_energy (suc k) (λ j b. can.low j (le_trans b h)))
      (mul-le-mul_right largest_energy (le_trans h can.few)) in
      omega (arith, cents_are_at k h, cents_next p (row_energy energies) k, (worth_nearest p energy).above, worth_fits p energy can.most few)
