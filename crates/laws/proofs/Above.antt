-- Laws of numbers that are refused where they are too large: none is refused exactly where none is too large, and what they refuse is bounded.
-- Assumes nothing.
use Prim.Native.Nat.{ℕ, ◌≤◌, ◌<◌}
use mathlib.Core.List.{List, [], ◌∷◌}
use mathlib.Core.Path.{◌≡◌, refl}
use native.Mathlib.Omega.{arith}
use lib.Dec.{ltb}
use lib.ListN.{length, get_or}
use borrow.Author.Tests.{ltb-false, lt-ltb, le-ltb}
use Rattle.laws.specs.Above.{above_rows, above_table}
use Rattle.laws.specs.Bounds.{largest_number, largest_place}
use Rattle.laws.specs.Table.{refusal_at, Row, row, first_of}
use Rattle.laws.proofs.RowLaws.{all_rows}
use Rattle.laws.proofs.Tables.{Numbered, NoneBroken, RowsBounded, row_stops}
use Rattle.laws.proofs.Walks.{Walked, none_iff_each, walk_numbered}

-- none of the numbers is above the largest that is taken
abbrev pub AllLow : ℕ → List ℕ → Type 0
AllLow most xs = (k : ℕ) → k < length xs → get_or xs k 0 ≤ most

module _ (number most : ℕ) (xs : List ℕ) where
  pub rows_are : above_rows number most xs ≡ (λ k. row number k (ltb most (get_or xs k 0)) ∷ [])
  unfolding above_rows
  rows_are = refl

  pub none_low : NoneBroken (above_table number most xs) → AllLow most xs
  unfolding above_rows
  none_low none k h = ltb-false most (get_or xs k 0) ((none_iff_each (above_rows number most xs) (length xs)).0 none k h).0

  pub low_none : AllLow most xs → NoneBroken (above_table number most xs)
  unfolding above_rows
  low_none low = (none_iff_each (above_rows number most xs) (length xs)).1 (λ k h. (le-ltb most (get_or xs k 0) (low k h), tt))

  -- up to an index, where none before it is too large; and at one, where the number is
  module _ (k : ℕ) where
    pub low_walked : k ≤ length xs → ((i : ℕ) → i < k → get_or xs i 0 ≤ most) → Walked (above_rows number most xs) (length xs) k
    unfolding above_rows
    low_walked h low =
        record { within = h; kept = (none_iff_each (above_rows number most xs) k).1 (λ i b. (le-ltb most (get_or xs i 0) (low i b), tt)) }

    pub above_stops : most < get_or xs k 0 → refusal_at number k ≡ first_of (above_rows number most xs k)
    unfolding above_rows
    above_stops h = row_stops _ _ (lt-ltb most (get_or xs k 0) h)

  module _ (some : 1 ≤ number) where
    above_numbered : (k : ℕ) → Numbered (above_rows number most xs k)
    unfolding above_rows
    above_numbered k = omega arith

    pub table_numbered : Numbered (above_table number most xs)
    table_numbered = walk_numbered (above_rows number most xs) above_numbered (length xs)

  module _ (small : number ≤ largest_number) (few : length xs ≤ largest_place) where
    above_bounded : (k : ℕ) → k < length xs → RowsBounded (above_rows number most xs k)
    unfolding above_rows
    above_bounded k h = omega (arith, small, few)

    pub table_bounded : RowsBounded (above_table number most xs)
    table_bounded = all_rows (λ (r : Row). (r.number ≤ largest_number) × (r.place ≤ largest_place)) (above_rows number most xs) (length xs) above_bounded
