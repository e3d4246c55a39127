-- What the first number that is too large refuses, by a table of such numbers, and that nothing is refused where there is none.
-- Assumes nothing.
use Prim.Native.Nat.{ℕ, ◌≤◌, ◌<◌}
use mathlib.Core.Bool.{Bool, true, false, cond}
use mathlib.Core.List.{List}
use mathlib.Core.Path.{◌≡◌, refl, sym}
use native.Mathlib.Omega.{arith}
use lib.Dec.{ltb}
use lib.ListN.{length, get_or}
use borrow.Author.Tests.{ltb-true, ltb-false, ne_eqb}
use Rattle.std.proofs.lemmas.List.Quantifiers.{position-Some}
use Rattle.std.proofs.lemmas.List.Sums.{fails_before_first}
use Rattle.std.proofs.lemmas.Option.{none-some}
use Rattle.std.specs.List.{position, position_or_len}
use Rattle.std.specs.Prelude.{None, Some}
use Rattle.laws.specs.Above.{above_table}
use Rattle.laws.specs.Table.{accepted, refusal_at, first_of}
use Rattle.laws.proofs.Above.{low_none, low_walked, above_stops}
use Rattle.laws.proofs.Tables.{none_accepted}
use Rattle.laws.proofs.Walks.{walked_stop}

-- where there is none the test does not hold
none_cond : (b : Bool) (n : ℕ) → cond b (Some n) None ≡ None → b ≡ false
none_cond true n e = absurd (none-some n (sym e))
none_cond false n e = refl

module _ (number most : ℕ) (xs : List ℕ) where
  pub first_refuses : (k : ℕ) → 1 ≤ number → position (ltb most) xs ≡ Some k → refusal_at number k ≡ first_of (above_table number most xs)
  first_refuses k some e =
      let found = position-Some (ltb most) xs k 0 e in
      let low : (i : ℕ) → i < k → get_or xs i 0 ≤ most = λ i h. ltb-false most (get_or xs i 0) (found.2 i h) in
      walked_stop (low_walked number most xs k (omega (arith, found.0)) low) (above_stops number most xs k (ltb-true most (get_or xs k 0) found.1)) found.0
      (rw (ne_eqb number 0 (λ (z : number ≡ 0). omega arith)) refl)

  pub none_refuses : position (ltb most) xs ≡ None → accepted ≡ first_of (above_table number most xs)
  none_refuses e =
      let past : length xs ≤ position_or_len (ltb most) xs = ltb-false _ _ (none_cond (ltb (position_or_len (ltb most) xs) (length xs)) _ e) in
      let low : (i : ℕ) → i < length xs → get_or xs i 0 ≤ most =
      λ i h. ltb-false most (get_or xs i 0) (fails_before_first (ltb most) xs i 0 (omega (arith, past, h))) in
      sym (none_accepted (above_table number most xs) (low_none number most xs low))
