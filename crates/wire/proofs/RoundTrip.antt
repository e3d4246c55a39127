-- What is written reads back: a 64-bit number's eight bytes give it again, and so do those at its place in the output.
-- Assumes nothing.
use Prim.Native.Nat.{ℕ, zero, suc, ◌+◌, ◌*◌, ◌^◌, ◌≤◌, ◌<◌}
use mathlib.Core.List.{List, ◌++◌}
use mathlib.Core.Logic.{⊎_elim}
use mathlib.Core.Path.{◌≡◌, ◌∙◌}
use native.Mathlib.Nat.{add_assoc, add-zero, eq-or-lt_of_le, le_of_suc-le-suc}
use native.Mathlib.Omega.{arith}
use lib.ListN.{length, get_or, get_or-append}
use lib.Seq.{get_or-append-add}
use Rattle.std.proofs.lemmas.Nat.{from_le_bytes-to_le_bytes_8}
use Rattle.laws.proofs.RowLaws.{rows_more}
use Rattle.wire.specs.Bytes.{four_bytes_at, eight_bytes_at, eight_bytes, bytes_to}
use Rattle.wire.proofs.WriteLaws.{bytes_long}

eight_back : (v : ℕ) → v < 2 ^ 64 → eight_bytes_at (eight_bytes v) 0 ≡ v
unfolding four_bytes_at eight_bytes
eight_back v h = omega (arith, from_le_bytes-to_le_bytes_8 v h)

-- in bytes of two parts

module _ (xs ys : List ℕ) where
  pub number_front : (i : ℕ) → i + 4 ≤ length xs → four_bytes_at (xs ++ ys) i ≡ four_bytes_at xs i
  unfolding four_bytes_at
  number_front i h =
      let at0 = get_or-append xs ys 0 i (omega arith) in
      let at1 = get_or-append xs ys 0 (i + 1) (omega arith) in
      let at2 = get_or-append xs ys 0 (i + 2) (omega arith) in
      let at3 = get_or-append xs ys 0 (i + 3) (omega arith) in
      rw (at0, at1, at2, at3)

  pub number_behind : (n i : ℕ) → length xs ≡ n → four_bytes_at (xs ++ ys) (n + i) ≡ four_bytes_at ys i
  unfolding four_bytes_at
  number_behind n i e = rw (← e) (simp (add_assoc, get_or-append-add))

  halves_front : (i : ℕ) → i + 8 ≤ length xs → eight_bytes_at (xs ++ ys) i ≡ eight_bytes_at xs i
  halves_front i h = rw (number_front i (omega arith), number_front (i + 4) (omega arith))

  halves_behind : (n : ℕ) → length xs ≡ n → eight_bytes_at (xs ++ ys) n ≡ eight_bytes_at ys 0
  halves_behind n e = omega (arith, rw add-zero at (number_behind n 0 e), number_behind n 4 e)

module _ (numbers : List ℕ) (k : ℕ) (fits : get_or numbers k 0 < 2 ^ 64) where
  bytes_back : (n : ℕ) → k < n → eight_bytes_at (bytes_to numbers n) (8 * k) ≡ get_or numbers k 0
  bytes_back zero h = absurd (omega arith)
  bytes_back (suc n) h =
      rw (rows_more (λ (i : ℕ). eight_bytes (get_or numbers i 0)) n)
      (⊎_elim
      (λ (e : k ≡ n). rw (← e)
      (halves_behind (bytes_to numbers k) (eight_bytes (get_or numbers k 0)) (8 * k) (bytes_long numbers k) ∙ eight_back (get_or numbers k 0) fits))
      (λ (l : k < n). halves_front (bytes_to numbers n) (eight_bytes (get_or numbers n 0)) (8 * k) (rw (bytes_long numbers n) (omega arith)) ∙ bytes_back n l)
      (eq-or-lt_of_le (le_of_suc-le-suc h)))

  -- each number of those whose bytes stand at the front, whatever follows them
  pub written_back : (n : ℕ) (rest : List ℕ) → k < n → eight_bytes_at (bytes_to numbers n ++ rest) (8 * k) ≡ get_or numbers k 0
  written_back n rest h = halves_front (bytes_to numbers n) rest (8 * k) (rw (bytes_long numbers n) (omega arith)) ∙ bytes_back n h
