-- Stores in a row, for loops that fill a lent slice from its front.
-- Assumes nothing.
use Prim.Native.Nat.{ℕ, zero, suc, ◌+◌, ◌≤◌}
use mathlib.Core.List.{List, [], ◌∷◌, ◌++◌}
use mathlib.Core.Path.{◌≡◌, refl, ap, sym, ◌∙◌}
use native.Mathlib.Nat.{add-suc}
use native.Mathlib.Numerals.{add-one}
use native.Mathlib.Omega.{arith}
use lib.ListN.{length, set, take, drop, replicate, length-append, length-drop}
use lib.Seq.{sets, sets-eq, take_at, drop-append-add, drop-drop}

-- stores that start where the done part xs ends make it longer by what they store, and leave the rest of the slice l as it was
pub sets_front : (xs l vs : List ℕ) (i : ℕ) → length xs ≡ i → i + length vs ≤ length l → sets (xs ++ drop i l) i vs ≡ (xs ++ vs) ++ drop (i + length vs) l
sets_front xs l vs i e h =
    let fits : i + length vs ≤ length (xs ++ drop i l) = simp (length-append, length-drop) (omega arith) in
    let done : take i (xs ++ drop i l) ≡ xs = take_at xs (drop i l) i e in
    let rest : drop (length xs + length vs) (xs ++ drop i l) ≡ drop (i + length vs) l = drop-append-add xs (drop i l) (length vs) ∙ drop-drop (length vs) i l in
    sets-eq vs (xs ++ drop i l) i fits
    ∙ ap (λ (r : List ℕ). r ++ vs ++ drop (i + length vs) (xs ++ drop i l)) done
    ∙ ap (λ (r : List ℕ). xs ++ vs ++ r) (ap (λ (k : ℕ). drop (k + length vs) (xs ++ drop i l)) (sym e) ∙ rest)

-- stores one after another as code writes them: those of `stores_from` at i + j, i + (j + 1) and so on, all of them at i, i + 1 and so on
abbrev pub stores_from : List ℕ → ℕ → ℕ → List ℕ → List ℕ
stores_from l i j [] = l
stores_from l i j (v ∷ vs) = stores_from (set l (i + j) v) i (suc j) vs

abbrev pub stores_at : List ℕ → ℕ → List ℕ → List ℕ
stores_at l i [] = l
stores_at l i (v ∷ vs) = stores_from (set l i v) i 1 vs

from_sets : (l : List ℕ) (i j : ℕ) (vs : List ℕ) → stores_from l i j vs ≡ sets l (i + j) vs
from_sets l i j [] = refl
from_sets l i j (v ∷ vs) = from_sets (set l (i + j) v) i (suc j) vs ∙ rw (add-suc i j)

-- a line of any length, stored number by number, is stored
pub stores_in_a_row : (l : List ℕ) (i : ℕ) (vs : List ℕ) → stores_at l i vs ≡ sets l i vs
stores_in_a_row l i [] = refl
stores_in_a_row l i (v ∷ vs) = from_sets (set l i v) i 1 vs ∙ rw (add-one i)

-- the front of a slice of equal numbers
pub take_replicate : (n m a : ℕ) → n ≤ m → take n (replicate m a) ≡ replicate n a
take_replicate zero m a h = refl
take_replicate (suc n) zero a h = absurd (omega arith)
take_replicate (suc n) (suc m) a h = ap (λ (l : List ℕ). a ∷ l) (take_replicate n m a (omega arith))

-- stores in two parts
pub sets_append : (xs ys l : List ℕ) (i : ℕ) → sets l i (xs ++ ys) ≡ sets (sets l i xs) (i + length xs) ys
sets_append [] ys l i = let e : i + 0 ≡ i = omega arith in rw e
sets_append (a ∷ xs) ys l i =
    let e : i + suc (length xs) ≡ suc i + length xs = omega arith in
    rw e (sets_append xs ys (set l i a) (suc i))
