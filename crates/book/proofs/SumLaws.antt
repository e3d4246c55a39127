-- Laws of sums over hours: one hour more, none left, none past the end of what is read; the same over equal hours, a multiple over
-- multiples, and a bound.
-- Assumes nothing.
use Prim.Native.Nat.{ℕ, zero, suc, ◌+◌, ◌-◌, ◌*◌, ◌^◌, ◌≤◌, ◌<◌, min}
use mathlib.Core.List.{List, [], ◌∷◌, ◌++◌}
use mathlib.Core.Logic.{⊎_elim}
use mathlib.Core.Path.{◌≡◌, refl, sym, ◌∙◌}
use native.Mathlib.Nat.{mul-add, mul-zero}
use native.Mathlib.Omega.{arith}
use lib.ListN.{length, get_or-eq_default}
use Rattle.laws.proofs.Every.{Every}
use Rattle.laws.proofs.Order.{either_order}
use Rattle.std.proofs.Common.{Fits, w32}
use Rattle.std.proofs.lemmas.List.Sums.{sum_by-cons}
use Rattle.std.specs.List.{sum_by, range_with_len}
use native.Mathlib.Numerals.{add-one}
use Rattle.book.specs.Places.{hours_from, run}
use Rattle.book.specs.Readings.{reading_at, sum_over, RunSum}
use Rattle.book.proofs.RunLaws.{run_more, run_none, run_past, run_each, run_long, run_split, run_from}

pub sum_more : (f : ℕ → ℕ) (h to : ℕ) → h < to → sum_over f (run h to) ≡ f h + sum_over f (run (h + 1) to)
unfolding sum_over
sum_more f h to b = rw (run_more h to b)

pub sum_none : (f : ℕ → ℕ) (h to : ℕ) → to ≤ h → sum_over f (run h to) ≡ 0
unfolding sum_over
sum_none f h to b = rw (run_none h to b)

-- in two parts
pub sum_joined : (f : ℕ → ℕ) (xs ys : List ℕ) → sum_over f (xs ++ ys) ≡ sum_over f xs + sum_over f ys
unfolding sum_over
sum_joined f [] ys = omega arith
sum_joined f (x ∷ xs) ys = rw (sum_joined f xs ys) (omega arith)

pub sum_same : (f g : ℕ → ℕ) (hours : List ℕ) → Every (λ (h : ℕ). f h ≡ g h) hours → sum_over f hours ≡ sum_over g hours
unfolding sum_over
sum_same f g [] a = refl
sum_same f g (h ∷ hours) a = rw (a.0, sum_same f g hours a.1)

pub sum_times : (k : ℕ) (f g : ℕ → ℕ) (hours : List ℕ) → Every (λ (h : ℕ). g h ≡ k * f h) hours → sum_over g hours ≡ k * sum_over f hours
unfolding sum_over
sum_times k f g [] a = sym (mul-zero k)
sum_times k f g (h ∷ hours) a = rw (a.0, sum_times k f g hours a.1) (sym (mul-add k _ _))

pub sum_most : (f : ℕ → ℕ) (m : ℕ) (hours : List ℕ) → Every (λ (h : ℕ). f h ≤ m) hours → sum_over f hours ≤ m * length hours
unfolding sum_over
sum_most f m [] a = omega arith
sum_most f m (h ∷ hours) a = omega (arith, a.0, sum_most f m hours a.1, mul-add m 1 (length hours))

-- past the end of the values nothing is added
past_sum : (values hours : List ℕ) → Every (λ (h : ℕ). length values ≤ h) hours → sum_over (reading_at values) hours ≡ 0
unfolding sum_over
past_sum values [] past = refl
past_sum values (h ∷ hours) past = rw (get_or-eq_default values 0 past.0, past_sum values hours past.1)

-- past the last hour or past the end of the values
pub sum_there : (values : List ℕ) (h to : ℕ) → min to (length values) ≤ h → sum_over (reading_at values) (run h to) ≡ 0
sum_there values h to b =
    ⊎_elim
    (λ (l : h < to). past_sum values (run h to) (run_past (length values) h to (omega arith)))
    (λ (l : to ≤ h). sum_none (reading_at values) h to l)
    (either_order h to)

-- the library's sum over the numbers of a range
by_range : (f : ℕ → ℕ) (a n : ℕ) → sum_by f (range_with_len a n) ≡ sum_over f (hours_from a n)
unfolding sum_over hours_from
by_range f a zero = refl
by_range f a (suc n) = sum_by-cons f a (range_with_len (a + 1) n) ∙ rw (by_range f (a + 1) n, add-one)

module _ (values : List ℕ) (fits : (i : ℕ) → Fits w32 (reading_at values i)) (from to end : ℕ) (e : end ≡ min to (length values)) where
  -- is that over a run, since past the end of the values nothing is added
  sum_range : sum_by (reading_at values) (range_with_len from (end - from)) ≡ sum_over (reading_at values) (run from to)
  unfolding sum_over hours_from
  sum_range =
      by_range (reading_at values) from (end - from)
      ∙ ⊎_elim
      (λ (h : from < end). let rest : sum_over (reading_at values) (run end to) ≡ 0 = sum_there values end to (omega arith) in
      let whole = sum_joined (reading_at values) (run from end) (run end to) in
      rw (run_split from end to (omega arith) (omega arith), whole, rest, ← run_from from end (end - from) refl) (omega arith))
      (λ (h : end ≤ from). let none : end - from ≡ 0 = omega arith in rw (sum_there values from to (omega arith), none) refl)
      (either_order from end)

  sum_small : sum_over (reading_at values) (run from to) ≤ (to - from) * 2 ^ 32
  sum_small =
      let below = run_each (λ (h : ℕ). reading_at values h ≤ 2 ^ 32) from to (λ x f t. omega (arith, fits x)) in
      let each = sum_most (reading_at values) (2 ^ 32) (run from to) below in
      omega (arith, each, run_long from to)

  pub run_fits : to < 2 ^ 32 → sum_by (reading_at values) (range_with_len from (end - from)) < 2 ^ 64
  run_fits h = rw sum_range (omega (arith, sum_small))

  pub run_sum : {sum : ℕ} → sum ≡ sum_by (reading_at values) (range_with_len from (end - from)) → RunSum values from to sum
  run_sum q = record { is = q ∙ sum_range; most = rw (q ∙ sum_range) sum_small }
