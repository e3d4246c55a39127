-- The reference days are exactly the five nearest days that serve, without the recursion: each serves and is before the event day; they
-- fall; there are at most five; and a day that serves and is none of them is before all of them, and then there are five. First of the
-- days before any day that pass any test.
-- Assumes nothing.
use Prim.Native.Nat.{ℕ, zero, suc, ◌≤◌, ◌<◌}
use mathlib.Core.Bool.{Bool, true, false, cond}
use mathlib.Core.List.{List, [], ◌∷◌, Memᴰ}
use mathlib.Core.Logic.{◌⊎◌, inl, inr, ⊎_elim}
use mathlib.Core.Path.{◌≡◌, refl, ap}
use native.Mathlib.Nat.{le_of_suc-le-suc, eq-or-lt_of_le}
use native.Mathlib.Omega.{arith}
use lib.ListN.{length, get_or, take, length-take}
use Rattle.calendar.specs.declared.answers.Winter.{Winter}
use Rattle.laws.proofs.Every.{Every, front, at, imply}
use Rattle.references.specs.ReferenceDays.{serves, before, reference_days}

-- the days before d that pass a test

-- x passes, and is before d
pub record Passes (ok : ℕ → Bool) (d x : ℕ) : Type 0 where
  pub earlier : x < d
  pub ok_is : ok x ≡ true

before_pass : (ok : ℕ → Bool) (d : ℕ) → Every (Passes ok d) (before ok d)
unfolding before
before_pass ok zero = tt
before_pass ok (suc d) = by (ok d) refl (imply (Passes ok d) (Passes ok (suc d)) later (before ok d) (before_pass ok d))
  where
    later : (x : ℕ) → Passes ok d x → Passes ok (suc d) x
    later x p = record { earlier = omega (arith, p.earlier); ok_is = p.ok_is }

    by : (t : Bool) → ok d ≡ t → Every (Passes ok (suc d)) (before ok d) → Every (Passes ok (suc d)) (cond t (d ∷ before ok d) (before ok d))
    by true e rest = (record { earlier = omega arith; ok_is = e }, rest)
    by false e rest = rest

-- a list falls: each number is above all that come after it
abbrev pub Falls : List ℕ → Type 0
Falls [] = Unit {0}
Falls (x ∷ xs) = Every (λ (z : ℕ). z < x) xs × Falls xs

before_falls : (ok : ℕ → Bool) (d : ℕ) → Falls (before ok d)
unfolding before
before_falls ok zero = tt
before_falls ok (suc d) = by (ok d) (before_falls ok d)
  where
    lower : Every (λ (x : ℕ). x < d) (before ok d)
    lower = imply (Passes ok d) (λ (x : ℕ). x < d) (λ x p. p.earlier) (before ok d) (before_pass ok d)

    by : (t : Bool) → Falls (before ok d) → Falls (cond t (d ∷ before ok d) (before ok d))
    by true rest = (lower, rest)
    by false rest = rest

falls_front : (n : ℕ) (xs : List ℕ) → Falls xs → Falls (take n xs)
falls_front zero xs f = tt
falls_front (suc n) [] f = tt
falls_front (suc n) (x ∷ xs) f = (front (λ (z : ℕ). z < x) n xs f.0, falls_front n xs f.1)

falls_at : (xs : List ℕ) → Falls xs → (i j : ℕ) → i < j → j < length xs → get_or xs j 0 < get_or xs i 0
falls_at [] f i j h l = absurd (omega arith)
falls_at (x ∷ xs) f i zero h l = absurd (omega arith)
falls_at (x ∷ xs) f zero (suc j) h l = at (λ (z : ℕ). z < x) xs j 0 (omega arith) f.0
falls_at (x ∷ xs) f (suc i) (suc j) h l = falls_at xs f.1 i j (omega arith) (omega arith)

-- x is one of the n nearest, or is before all of them, and then there are n
abbrev pub Met : ℕ → ℕ → List ℕ → Type 0
Met x n xs = Memᴰ x xs ⊎ (Every (λ (r : ℕ). x < r) xs × (length xs ≡ n))

met_more : (x d n : ℕ) (xs : List ℕ) → x < d → Met x n xs → Met x (suc n) (d ∷ xs)
met_more x d n xs h (inl m) = inl (Memᴰ.tail m)
met_more x d n xs h (inr p) = inr ((h, p.0), ap suc p.1)

met_next : (x d : ℕ) (ds : List ℕ) → x < suc d → ((n : ℕ) → x < d → Met x n (take n ds))
    → (t : Bool) → (x ≡ d → t ≡ true) → (n : ℕ) → Met x n (take n (cond t (d ∷ ds) ds))
met_next x d ds h rest true e zero = inr (tt, refl)
met_next x d ds h rest true e (suc n) =
    ⊎_elim (λ (q : x ≡ d). inl (Memᴰ.head q)) (λ (l : x < d). met_more x d n (take n ds) l (rest n l)) (eq-or-lt_of_le (le_of_suc-le-suc h))
met_next x d ds h rest false e n =
    ⊎_elim (λ (q : x ≡ d). absurd (clash (e q))) (λ (l : x < d). rest n l) (eq-or-lt_of_le (le_of_suc-le-suc h))
  where
    clash : ◌≡◌ {A = Bool} false true → ⊥
    clash p = let z : ◌≡◌ {A = ℕ} 0 1 = cc in omega arith

before_met : (ok : ℕ → Bool) (d n x : ℕ) → x < d → ok x ≡ true → Met x n (take n (before ok d))
unfolding before
before_met ok zero n x h t = absurd (omega arith)
before_met ok (suc d) n x h t = met_next x d (before ok d) h (λ n l. before_met ok d n x l t) (ok d) (λ (q : x ≡ d). rw q at t) n

-- the reference days
module _ (w : Winter) (free : ℕ → Bool) (day s : ℕ) where
  pub refs_serve : Every (Passes (serves w free day s) day) (reference_days w free day s)
  unfolding reference_days
  refs_serve = front (Passes (serves w free day s) day) 5 (before (serves w free day s) day) (before_pass (serves w free day s) day)

  pub refs_fall : (i j : ℕ) → i < j → j < length (reference_days w free day s)
      → get_or (reference_days w free day s) j 0 < get_or (reference_days w free day s) i 0
  unfolding reference_days
  refs_fall = falls_at (reference_days w free day s) (falls_front 5 (before (serves w free day s) day) (before_falls (serves w free day s) day))

  pub refs_few : length (reference_days w free day s) ≤ 5
  unfolding reference_days
  refs_few = omega (arith, length-take 5 (before (serves w free day s) day))

  pub refs_all : (d : ℕ) → d < day → serves w free day s d ≡ true → (Memᴰ d (reference_days w free day s) → ⊥)
      → Every (λ (r : ℕ). d < r) (reference_days w free day s) × (length (reference_days w free day s) ≡ 5)
  unfolding reference_days
  refs_all d h t out =
      ⊎_elim (λ (m : Memᴰ d (reference_days w free day s)). absurd (out m))
      (λ (p : Every (λ (r : ℕ). d < r) (reference_days w free day s) × (length (reference_days w free day s) ≡ 5)). p)
      (before_met (serves w free day s) day 5 d h t)
