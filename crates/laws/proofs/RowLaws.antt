-- Laws of k rows of w numbers each: how long they are, what number j of row i is, what a loop that writes a row a turn needs (before the first
-- row, one row more, and all of them), and whether there is room for them.
-- Assumes nothing.
use Prim.Native.Nat.{ℕ, zero, suc, ◌+◌, ◌*◌, ◌/◌, ◌≤◌, ◌<◌}
use mathlib.Core.Bool.{Bool, true, false}
use mathlib.Core.List.{List, [], ◌∷◌, ◌++◌, append_assoc, append-nil}
use mathlib.Core.Logic.{⊎_elim}
use mathlib.Core.Path.{◌≡◌, refl, sym, ap, ◌∙◌}
use native.Mathlib.Nat.{eq-or-lt_of_le, le_of_suc-le-suc, le_trans, mul-le-mul_left, mul_comm, mul-zero, mul-suc, one-mul, div-lt_iff_lt-mul, le-div_iff_mul-le}
use native.Mathlib.Numerals.{add-one}
use native.Mathlib.Omega.{arith}
use lib.Dec.{ltb}
use lib.ListN.{length, get_or, take, drop, set, length-append, get_or-append}
use lib.Seq.{sets, length-sets, get_or-append-add, take_at, drop_at}
use borrow.Author.Tests.{ltb-true, ltb-false, lt-ltb, le-ltb}
use Rattle.laws.specs.Rows.{rows_to, rows_over, numbers_over}
use Rattle.laws.proofs.Every.{Every, left, right, joined}
use Rattle.laws.proofs.Stores.{sets_front}

-- no rows, one row more, and rows that are alike
module _ {A : Type 0} where
  pub rows_none : (row_at : ℕ → List A) → rows_to row_at 0 ≡ []
  unfolding rows_to
  rows_none row_at = refl

  pub rows_more : (row_at : ℕ → List A) (k : ℕ) → rows_to row_at (suc k) ≡ rows_to row_at k ++ row_at k
  unfolding rows_to
  rows_more row_at k = refl

  pub rows_alike : (row_at row_at' : ℕ → List A) (n : ℕ) → ((k : ℕ) → k < n → row_at k ≡ row_at' k) → rows_to row_at n ≡ rows_to row_at' n
  unfolding rows_to
  rows_alike row_at row_at' zero same = refl
  rows_alike row_at row_at' (suc n) same = rw (rows_alike row_at row_at' n (λ k h. same k (omega arith)), same n (omega arith))

-- every row has w numbers
pub record Wide (w : ℕ) (row_at : ℕ → List ℕ) : Type 0 where
  pub long : (k : ℕ) → length (row_at k) ≡ w

-- the loop's invariant: of n rows the first k stand at the front of the output, and its rest is as it came
pub record Filled (w : ℕ) (row_at : ℕ → List ℕ) (came : List ℕ) (n : ℕ) (out : List ℕ) (k : ℕ) : Type 0 where
  pub within : k ≤ n
  pub size : length out ≡ length came
  pub rows : out ≡ rows_over w row_at k came

module _ {w : ℕ} {row_at : ℕ → List ℕ} (wide : Wide w row_at) where
  pub rows_long : (k : ℕ) → length (rows_to row_at k) ≡ w * k
  unfolding rows_to
  rows_long zero = sym (mul-zero w)
  rows_long (suc k) = simp (length-append, mul-suc) (omega (arith, rows_long k, wide.long k))

  -- number j of row i of n rows, whatever follows them
  pub row_in : (rest : List ℕ) (n i j : ℕ) → i < n → j < w → get_or (rows_to row_at n ++ rest) (w * i + j) 0 ≡ get_or (row_at i) j 0
  unfolding rows_to
  row_in rest zero i j h b = absurd (omega arith)
  row_in rest (suc n) i j h b =
      rw (append_assoc (rows_to row_at n) (row_at n) rest)
      (⊎_elim
      (λ (e : i ≡ n). rw e
      (ap (λ (m : ℕ). get_or (rows_to row_at n ++ (row_at n ++ rest)) (m + j) 0) (sym (rows_long n))
      ∙ get_or-append-add (rows_to row_at n) (row_at n ++ rest) j 0
      ∙ get_or-append (row_at n) rest 0 j (omega (arith, wide.long n))))
      (λ (e : i < n). row_in (row_at n ++ rest) n i j e b)
      (eq-or-lt_of_le (le_of_suc-le-suc h)))

  -- the stores of row k make k rows k + 1
  rows_next : (came : List ℕ) (k : ℕ) → w * suc k ≤ length came → sets (rows_over w row_at k came) (w * k) (row_at k) ≡ rows_over w row_at (suc k) came
  unfolding rows_to
  rows_next came k h =
      let e : w * k + length (row_at k) ≡ w * suc k = rw (wide.long k) (sym (mul-suc w k)) in
      sets_front (rows_to row_at k) came (row_at k) (w * k) (rows_long k) (rw e h) ∙ rw e

pub filled_none : {w : ℕ} {row_at : ℕ → List ℕ} {came : List ℕ} {n : ℕ} → Filled w row_at came n came 0
unfolding rows_to
filled_none {w} = record { within = omega arith; size = refl; rows = rw (mul-zero w) }

module _ {w : ℕ} {row_at : ℕ → List ℕ} {came : List ℕ} {n : ℕ} {out : List ℕ} {k : ℕ} (h : Filled w row_at came n out k) where
  pub filled_next : {next row : List ℕ} → Wide w row_at → w * n ≤ length came → k < n → next ≡ sets out (w * k) row → row ≡ row_at k
      → Filled w row_at came n next (k + 1)
  filled_next {next} {row} wide room e s r =
      let fits : w * suc k ≤ length came = le_trans (mul-le-mul_left w e) room in
      rw add-one (record {
        within = e;
        size = ap length s ∙ length-sets out (w * k) row ∙ h.size;
        rows = s ∙ rw (r, h.rows) (rows_next wide came k fits);
      })

  pub filled_all : n ≤ k → out ≡ rows_over w row_at n came
  filled_all e = let q : k ≡ n = omega (arith, h.within) in rw (← q) h.rows

-- a list of two parts is told by its parts, the first parts of one length
pub parts_same : {A : Type 0} (xs ys us vs : List A) → length xs ≡ length us → xs ++ ys ≡ us ++ vs → (xs ≡ us) × (ys ≡ vs)
parts_same xs ys us vs n e = (
  sym (take_at xs ys (length xs) refl) ∙ ap (take (length xs)) e ∙ take_at us vs (length xs) (sym n),
  sym (drop_at xs ys (length xs) refl) ∙ ap (drop (length xs)) e ∙ drop_at us vs (length xs) (sym n),
)

-- equal rows are equal row by row
pub rows_same : {w : ℕ} {row_at row_at' : ℕ → List ℕ} → Wide w row_at → Wide w row_at' → (n k : ℕ) → k < n → rows_to row_at n ≡ rows_to row_at' n
    → row_at k ≡ row_at' k
unfolding rows_to
rows_same a b zero k h e = absurd (omega arith)
rows_same {w} {row_at} {row_at'} a b (suc n) k h e =
    let s = parts_same (rows_to row_at n) (row_at n) (rows_to row_at' n) (row_at' n) (rows_long a n ∙ sym (rows_long b n)) e in
    ⊎_elim (λ (q : k ≡ n). rw q s.1) (λ (q : k < n). rows_same a b n k q s.0) (eq-or-lt_of_le (le_of_suc-le-suc h))

-- a loop that writes one number a turn
module _ {number_at : ℕ → ℕ} where
  pub one_wide : Wide 1 (λ (k : ℕ). number_at k ∷ [])
  one_wide = record { long = λ k. refl }

  module _ {came : List ℕ} {n : ℕ} {out : List ℕ} {k : ℕ} (h : Filled 1 (λ (i : ℕ). number_at i ∷ []) came n out k) where
    pub filled_set : {v : ℕ} → n ≤ length came → k < n → v ≡ number_at k → Filled 1 (λ (i : ℕ). number_at i ∷ []) came n (set out k v) (k + 1)
    filled_set {v} room e q = filled_next h one_wide (rw one-mul room) e (rw (one-mul k) refl) (ap (λ (x : ℕ). x ∷ []) q)

    pub filled_ones : n ≤ k → out ≡ numbers_over number_at n came
    filled_ones e = filled_all h e ∙ rw (one-mul n)

-- what stands at an index of such numbers, with anything behind them and with nothing, and how many they are
pub ones_in : (number_at : ℕ → ℕ) (rest : List ℕ) (n k : ℕ) → k < n → get_or (rows_to (λ (i : ℕ). number_at i ∷ []) n ++ rest) k 0 ≡ number_at k
ones_in number_at rest n k h =
    let at : k ≡ 1 * k + 0 = omega arith in
    ap (λ (i : ℕ). get_or (rows_to (λ (j : ℕ). number_at j ∷ []) n ++ rest) i 0) at ∙ row_in one_wide rest n k 0 h (omega arith)

pub ones_at : (number_at : ℕ → ℕ) (n k : ℕ) → k < n → get_or (rows_to (λ (i : ℕ). number_at i ∷ []) n) k 0 ≡ number_at k
ones_at number_at n k h =
    ap (λ (l : List ℕ). get_or l k 0) (sym (append-nil (rows_to (λ (i : ℕ). number_at i ∷ []) n))) ∙ ones_in number_at [] n k h

pub ones_long : (number_at : ℕ → ℕ) (k : ℕ) → length (rows_to (λ (i : ℕ). number_at i ∷ []) k) ≡ k
ones_long number_at k = rows_long one_wide k ∙ one-mul k

-- what holds of every element of the rows holds in each row, and the other way round
module _ {A : Type 0} (P : A → Type 0) (row_at : ℕ → List A) where
  pub each_row : (n : ℕ) → Every P (rows_to row_at n) → (k : ℕ) → k < n → Every P (row_at k)
  unfolding rows_to
  each_row zero e k h = absurd (omega arith)
  each_row (suc n) e k h =
      ⊎_elim
      (λ (q : k ≡ n). rw q (right P (rows_to row_at n) (row_at n) e))
      (λ (q : k < n). each_row n (left P (rows_to row_at n) (row_at n) e) k q)
      (eq-or-lt_of_le (le_of_suc-le-suc h))

  pub all_rows : (n : ℕ) → ((k : ℕ) → k < n → Every P (row_at k)) → Every P (rows_to row_at n)
  unfolding rows_to
  all_rows zero f = tt
  all_rows (suc n) f = joined P (rows_to row_at n) (row_at n) (all_rows n (λ k h. f k (omega arith))) (f n (omega arith))

-- fewer than m rows fit into a room exactly where it is too small for m
pub room_test : (w room m : ℕ) → 0 < w → ltb (room / w) m ≡ ltb room (w * m)
room_test w room m some = by (ltb (room / w) m) refl
  where
    by : (b : Bool) → ltb (room / w) m ≡ b → ltb (room / w) m ≡ ltb room (w * m)
    by true e = e ∙ sym (lt-ltb room (w * m) (rw (mul_comm w m) ((div-lt_iff_lt-mul some).0 (ltb-true (room / w) m e))))
    by false e = e ∙ sym (le-ltb room (w * m) (rw (mul_comm w m) ((le-div_iff_mul-le some).0 (ltb-false (room / w) m e))))
