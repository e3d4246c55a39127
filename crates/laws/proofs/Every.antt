-- What holds of every element of a list, as a product that computes on a list that is written out, and its laws: of a list in two parts,
-- of the front of one, of a mapped one, at an index; what follows at each; two facts at once; what holds of anything.
-- Assumes nothing.
use Prim.Native.Nat.{ℕ, zero, suc, ◌<◌}
use mathlib.Core.List.{List, [], ◌∷◌, ◌++◌, map}
use native.Mathlib.Omega.{arith}
use lib.ListN.{length, get_or, take}

abbrev pub Every : {A : Type 0} → (A → Type 0) → List A → Type 0
Every P [] = Unit {0}
Every P (x ∷ xs) = P x × Every P xs

module _ {A : Type 0} (P : A → Type 0) where
  pub left : (xs ys : List A) → Every P (xs ++ ys) → Every P xs
  left [] ys h = tt
  left (x ∷ xs) ys h = (h.0, left xs ys h.1)

  pub right : (xs ys : List A) → Every P (xs ++ ys) → Every P ys
  right [] ys h = h
  right (x ∷ xs) ys h = right xs ys h.1

  pub joined : (xs ys : List A) → Every P xs → Every P ys → Every P (xs ++ ys)
  joined [] ys h g = g
  joined (x ∷ xs) ys h g = (h.0, joined xs ys h.1 g)

  pub front : (n : ℕ) (xs : List A) → Every P xs → Every P (take n xs)
  front zero xs h = tt
  front (suc n) [] h = tt
  front (suc n) (x ∷ xs) h = (h.0, front n xs h.1)

  pub at : (xs : List A) (k : ℕ) (d : A) → k < length xs → Every P xs → P (get_or xs k d)
  at [] k d h e = absurd (omega arith)
  at (x ∷ xs) zero d h e = e.0
  at (x ∷ xs) (suc k) d h e = at xs k d (omega arith) e.1

  pub all : ((x : A) → P x) → (xs : List A) → Every P xs
  all f [] = tt
  all f (x ∷ xs) = (f x, all f xs)

  pub imply : (Q : A → Type 0) → ((x : A) → P x → Q x) → (xs : List A) → Every P xs → Every Q xs
  imply Q f [] h = tt
  imply Q f (x ∷ xs) h = (f x h.0, imply Q f xs h.1)

  pub both : (Q : A → Type 0) (xs : List A) → Every P xs → Every Q xs → Every (λ (x : A). P x × Q x) xs
  both Q [] h g = tt
  both Q (x ∷ xs) h g = ((h.0, g.0), both Q xs h.1 g.1)

  pub mapped : {B : Type 0} (f : B → A) (xs : List B) → Every P (map f xs) → Every (λ (x : B). P (f x)) xs
  mapped f [] h = tt
  mapped f (x ∷ xs) h = (h.0, mapped f xs h.1)

  pub map_of : {B : Type 0} (f : B → A) (xs : List B) → Every (λ (x : B). P (f x)) xs → Every P (map f xs)
  map_of f [] h = tt
  map_of f (x ∷ xs) h = (h.0, map_of f xs h.1)
