-- Laws of the numbers that lent bytes stand for: how many they are, which they are where no byte is over, and each of them, read in the bytes or
-- in the part of them that it lies in.
-- Assumes nothing.
use Prim.Native.Nat.{ℕ, ◌+◌, ◌*◌, ◌/◌, ◌%◌, ◌≤◌, ◌<◌}
use mathlib.Core.Bool.{Bool, true, false, cond}
use mathlib.Core.List.{List}
use mathlib.Core.Path.{◌≡◌, refl, sym, ap, ◌∙◌}
use native.Mathlib.Omega.{arith}
use lib.Dec.{eqb}
use lib.ListN.{length, get_or, take, drop, replicate, length-take, length-drop, length-replicate}
use lib.Seq.{get_or-take, get_or-drop}
use borrow.Author.Tests.{eq-eqb, eqb-true, lt-ltb}
use Rattle.wire.specs.Bytes.{four_bytes_at, number_at, numbers_to}
use Rattle.wire.specs.Decoded.{too_many, number_count, decoded}
use Rattle.wire.proofs.LentBack.{number_at_lem}
use Rattle.wire.proofs.ReadLaws.{numbers_long}

pub decoded_long : (bytes : List ℕ) → length (decoded bytes) ≡ number_count (length bytes)
unfolding decoded number_count
decoded_long bytes = by (eqb (length bytes % 4) 0)
  where
    by : (b : Bool) → length (cond b (numbers_to bytes (length bytes / 4)) (replicate too_many 0)) ≡ cond b (length bytes / 4) too_many
    by true = numbers_long bytes (length bytes / 4)
    by false = length-replicate {A = ℕ} too_many 0

pub decoded_whole : (bytes : List ℕ) → length bytes % 4 ≡ 0 → decoded bytes ≡ numbers_to bytes (length bytes / 4)
unfolding decoded
decoded_whole bytes e = rw (eq-eqb (length bytes % 4) 0 e)

pub decoded_fourth : (bytes : List ℕ) → length bytes % 4 ≡ 0 → length (decoded bytes) ≡ length bytes / 4
decoded_fourth bytes e = ap length (decoded_whole bytes e) ∙ numbers_long bytes (length bytes / 4)

-- so many bytes are whole numbers
pub record Whole (n : ℕ) : Type 0 where
  pub none_over : n % 4 ≡ 0
  pub count : number_count n ≡ n / 4

-- bytes that are not taken for too many numbers are whole numbers
pub whole_numbers : (n : ℕ) → number_count n < too_many → Whole n
unfolding number_count
whole_numbers n h = by (eqb (n % 4) 0) refl h
  where
    by : (b : Bool) → eqb (n % 4) 0 ≡ b → cond b (n / 4) too_many < too_many → Whole n
    by true q h = record { none_over = eqb-true (n % 4) 0 q; count = rw q }
    by false q h = absurd (omega (arith, h))

-- the number at an index of lent bytes that are whole numbers
decoded_at : (bytes : List ℕ) (k : ℕ) → length bytes % 4 ≡ 0 → k < length bytes / 4 → get_or (decoded bytes) k 0 ≡ four_bytes_at bytes (4 * k)
decoded_at bytes k e h = rw (decoded_whole bytes e) (number_at_lem bytes (length bytes / 4) k h)

-- a part of them: so many bytes, from some byte on
module _ (bytes : List ℕ) (from long : ℕ) (there : from + long ≤ length bytes) where
  byte_in : (i : ℕ) → i < long → get_or (take long (drop from bytes)) i 0 ≡ get_or bytes (from + i) 0
  byte_in i h = get_or-take long (drop from bytes) i 0 h ∙ get_or-drop from bytes i 0

  four_in : (i : ℕ) → i + 4 ≤ long → four_bytes_at (take long (drop from bytes)) i ≡ four_bytes_at bytes (from + i)
  unfolding four_bytes_at
  four_in i h =
      let at1 : from + (i + 1) ≡ from + i + 1 = omega arith in
      let at2 : from + (i + 2) ≡ from + i + 2 = omega arith in
      let at3 : from + (i + 3) ≡ from + i + 3 = omega arith in
      rw (
        byte_in i (omega arith),
        byte_in (i + 1) (omega arith),
        byte_in (i + 2) (omega arith),
        byte_in (i + 3) (omega arith),
        at1,
        at2,
        at3,
      )

  part_long : length (take long (drop from bytes)) ≡ long
  part_long = simp (length-take, length-drop) (omega arith)

  -- a number in a part that begins with a whole number is one of all
  pub number_in : (j k : ℕ) → length bytes % 4 ≡ 0 → from ≡ 4 * j → 4 * k + 4 ≤ long
      → number_at (take long (drop from bytes)) k ≡ get_or (decoded bytes) (j + k) 0
  unfolding number_at
  number_in j k e f h =
      let at : from + 4 * k ≡ 4 * (j + k) = omega arith in
      let here : k < long / 4 = omega arith in
      rw (part_long, lt-ltb k (long / 4) here, four_in (4 * k) h, at) (sym (decoded_at bytes (j + k) e (omega arith)))
