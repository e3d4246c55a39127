-- Laws of reading: how many numbers are read, and what is read where the room fits just.
-- Assumes nothing.
use Prim.Native.Nat.{ℕ, ◌*◌, ◌/◌, ◌≤◌}
use mathlib.Core.List.{List, [], ◌++◌, append-nil}
use mathlib.Core.Path.{◌≡◌, sym, ap, ◌∙◌}
use native.Mathlib.Nat.{le_of_eq, le_refl}
use native.Mathlib.Omega.{arith}
use lib.ListN.{length, take, drop, length-append, length-drop, drop_of_length-le}
use lib.Seq.{length-take-le, take-append_seam}
use Rattle.laws.proofs.RowLaws.{ones_long}
use Rattle.wire.specs.Bytes.{four_bytes_at, numbers_to, read_count, numbers_read}

module _ (bytes : List ℕ) where
  pub numbers_long : (k : ℕ) → length (numbers_to bytes k) ≡ k
  numbers_long = ones_long (λ (k : ℕ). four_bytes_at bytes (4 * k))

  module _ (numbers : List ℕ) where
    -- with no more room than the bytes have whole numbers, these are all that is left
    pub read_full : length numbers ≤ length bytes / 4 → numbers_read bytes numbers ≡ numbers_to bytes (length numbers)
    unfolding numbers_read
    read_full h =
        let n : read_count bytes numbers ≡ length numbers = omega arith in
        let none : drop (length numbers) numbers ≡ [] = drop_of_length-le numbers (le_refl _) in
        rw (n, none) (append-nil (numbers_to bytes (length numbers)))

    -- and so with just the room for them
    pub read_whole : length numbers ≡ length bytes / 4 → numbers_read bytes numbers ≡ numbers_to bytes (length bytes / 4)
    read_whole e = read_full (le_of_eq e) ∙ rw e

    -- reading changes no length
    pub read_long : length (numbers_read bytes numbers) ≡ length numbers
    unfolding numbers_read
    read_long = simp (length-append, length-drop) (omega (arith, numbers_long (read_count bytes numbers)))

    -- those that are read stand in front
    read_first : take (read_count bytes numbers) (numbers_read bytes numbers) ≡ numbers_to bytes (read_count bytes numbers)
    unfolding numbers_read
    read_first =
        let n = read_count bytes numbers in
        ap (λ (k : ℕ). take k (numbers_to bytes n ++ drop n numbers)) (sym (numbers_long n)) ∙ take-append_seam (numbers_to bytes n) (drop n numbers)

-- what is read into the front of some room
pub front_read : (bytes room : List ℕ) {n : ℕ} {read : List ℕ} → n ≡ read_count bytes room → read ≡ numbers_read bytes (take n room)
    → read ≡ numbers_to bytes (read_count bytes room)
front_read bytes room {n} e read =
    let long : length (take n room) ≡ n = length-take-le n room (omega (arith, e)) in
    read ∙ read_full bytes (take n room) (omega (arith, e, long)) ∙ rw (long, e)

-- and what the front of room is into which they were read
pub front_taken : (bytes room : List ℕ) {read front : List ℕ} → read ≡ numbers_read bytes room → front ≡ take (read_count bytes read) read
    → front ≡ numbers_to bytes (read_count bytes room)
front_taken bytes room read front = rw (front, read, read_long bytes room) (read_first bytes room)
