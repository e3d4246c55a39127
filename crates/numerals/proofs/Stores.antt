-- Stores in a row: past the end of a slice, and one by one as a loop makes them.
-- Assumes nothing.
use Prim.Native.Nat.{ℕ, suc, ◌≤◌, ◌<◌}
use mathlib.Core.List.{List, [], ◌∷◌}
use mathlib.Core.Logic.{⊎_elim}
use mathlib.Core.Path.{◌≡◌, refl, sym, ◌∙◌}
use native.Mathlib.Numerals.{add-one}
use native.Mathlib.Omega.{arith}
use lib.ListN.{length, set}
use lib.Seq.{sets, set_out}
use borrow.Author.Tests.{lt-ltb, le-ltb}
use Rattle.laws.proofs.Order.{either_order}
use Rattle.numerals.specs.Rows.{next_index}

-- stores past the end of a slice are left out
pub sets_out : (vs l : List ℕ) (k : ℕ) → length l ≤ k → sets l k vs ≡ l
sets_out [] l k h = refl
sets_out (v ∷ vs) l k h = rw (set_out l k v h) (sets_out vs l (suc k) (omega arith))

-- one number stored, and the index after it
pub stored : (l : List ℕ) (k v : ℕ) (vs : List ℕ) → sets l k (v ∷ vs) ≡ sets (set l k v) (next_index (length l) k) vs
stored l k v vs =
    ⊎_elim
    (λ (h : k < length l). rw (lt-ltb k (length l) h, add-one k))
    (λ (h : length l ≤ k). rw (le-ltb k (length l) h, set_out l k v h) (sets_out vs l (suc k) (omega arith) ∙ sym (sets_out vs l k h)))
    (either_order k (length l))
