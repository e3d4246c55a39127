-- The days that pass any test, of k from day n on: they are the nearest, as many as pass, and none is before day n; more days hold no fewer. So
-- where five of them pass, the five nearest are among them.
-- Assumes nothing.
use Prim.Native.Nat.{ℕ, zero, suc, ◌+◌, ◌≤◌, ◌<◌}
use mathlib.Core.Bool.{Bool, true, false, cond}
use mathlib.Core.List.{List, [], ◌∷◌, ◌++◌}
use mathlib.Core.Logic.{⊎_elim}
use mathlib.Core.Path.{◌≡◌, refl, ap}
use native.Mathlib.Nat.{eq-or-lt_of_le}
use native.Mathlib.Omega.{arith}
use lib.ListN.{length, take, length-take}
use lib.Seq.{take-append-le}
use Rattle.laws.proofs.Below.{how_many}
use Rattle.laws.proofs.Every.{Every, front}
use Rattle.references.specs.ReferenceDays.{with_day, before}

-- the days that pass a test, of k from day n on, nearest first; behind them come those before day n
down : (ℕ → Bool) → ℕ → ℕ → List ℕ
down ok n zero = []
down ok n (suc k) = with_day (ok (n + k)) (n + k) (down ok n k)

before_on : (ok : ℕ → Bool) (n k : ℕ) → before ok (n + k) ≡ down ok n k ++ before ok n
unfolding before down
before_on ok n zero = let e : n + zero ≡ n = omega arith in rw e
before_on ok n (suc k) = let e : n + suc k ≡ suc (n + k) = omega arith in rw e (by (ok (n + k)) (before_on ok n k))
  where
    by : (b : Bool) → before ok (n + k) ≡ down ok n k ++ before ok n
        → cond b ((n + k) ∷ before ok (n + k)) (before ok (n + k)) ≡ cond b ((n + k) ∷ down ok n k) (down ok n k) ++ before ok n
    by true e = ap (λ (ds : List ℕ). (n + k) ∷ ds) e
    by false e = e

-- as many are found as pass, and none before day n
down_counts : (ok : ℕ → Bool) (n k : ℕ) → length (down ok n k) ≡ how_many (λ i. ok (n + i)) k
unfolding down
down_counts ok n zero = refl
down_counts ok n (suc k) = by (ok (n + k)) (down_counts ok n k)
  where
    by : (b : Bool) → length (down ok n k) ≡ how_many (λ i. ok (n + i)) k
        → length (cond b ((n + k) ∷ down ok n k) (down ok n k)) ≡ cond b (suc (how_many (λ i. ok (n + i)) k)) (how_many (λ i. ok (n + i)) k)
    by true e = ap suc e
    by false e = e

down_past : (ok : ℕ → Bool) (n k : ℕ) → Every (λ (d : ℕ). n ≤ d) (down ok n k)
unfolding down
down_past ok n zero = tt
down_past ok n (suc k) = by (ok (n + k)) (down_past ok n k)
  where
    by : (b : Bool) → Every (λ (d : ℕ). n ≤ d) (down ok n k) → Every (λ (d : ℕ). n ≤ d) (cond b ((n + k) ∷ down ok n k) (down ok n k))
    by true rest = (omega arith, rest)
    by false rest = rest

pub more_days : (ok : ℕ → Bool) (n day : ℕ) → n ≤ day → how_many ok n ≤ how_many ok day
more_days ok n zero h = let e : n ≡ 0 = omega arith in rw e (omega arith)
more_days ok n (suc day) h =
    ⊎_elim (λ (e : n ≡ suc day). rw e (omega arith)) (λ (l : n < suc day). by (ok day) (more_days ok n day (omega arith))) (eq-or-lt_of_le h)
  where
    by : (b : Bool) → how_many ok n ≤ how_many ok day → how_many ok n ≤ cond b (suc (how_many ok day)) (how_many ok day)
    by true e = omega arith
    by false e = e

-- where five of k days from day n on pass, the five nearest are among these
module _ (ok : ℕ → Bool) (n k : ℕ) (five : 5 ≤ how_many (λ i. ok (n + i)) k) where
  nearest_five : take 5 (before ok (n + k)) ≡ take 5 (down ok n k)
  nearest_five = rw (before_on ok n k) (take-append-le 5 (down ok n k) (before ok n) (omega (arith, down_counts ok n k)))

  pub five_long : length (take 5 (before ok (n + k))) ≡ 5
  five_long = rw nearest_five (omega (arith, length-take 5 (down ok n k), down_counts ok n k))

  pub five_past : Every (λ (d : ℕ). n ≤ d) (take 5 (before ok (n + k)))
  five_past = rw nearest_five (front _ 5 (down ok n k) (down_past ok n k))
