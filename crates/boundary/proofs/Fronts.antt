-- Laws of numbers that are read from bytes into the front of longer room, and of room for lines at the front of more.
-- Assumes nothing.
use Prim.Native.Nat.{ℕ, ◌*◌, ◌/◌, ◌%◌, ◌≤◌, min}
use mathlib.Core.List.{List, ◌++◌}
use mathlib.Core.Path.{◌≡◌, sym, ap, ◌∙◌}
use native.Mathlib.Omega.{arith}
use lib.ListN.{length, take, drop}
use lib.Seq.{take_at, length-take-le}
use Rattle.notices.specs.Notices.{count_in}
use Rattle.wire.proofs.DecodedLaws.{decoded_whole}
use Rattle.wire.proofs.ReadLaws.{numbers_long, read_whole}
use Rattle.wire.proofs.ReadLaws.{read_long as numbers_stay}
use Rattle.wire.specs.Bytes.{numbers_to, numbers_read}
use Rattle.wire.specs.Decoded.{decoded}
use Rattle.boundary.specs.Whole.{numbers_in_whole}

-- bytes of whole numbers stand for these
pub decoded_is : (bytes : List ℕ) → length bytes % 4 ≡ 0 → decoded bytes ≡ numbers_in_whole bytes
unfolding numbers_in_whole
decoded_is bytes whole = decoded_whole bytes whole

pub whole_long : (bytes : List ℕ) → length (numbers_in_whole bytes) ≡ length bytes / 4
unfolding numbers_in_whole
whole_long bytes = numbers_long bytes (length bytes / 4)

-- what is read into the front of room for n numbers, if it has enough, are all whole numbers
module _ (bytes : List ℕ) (n : ℕ) {read : List ℕ} (e : read ≡ numbers_to bytes (min (length bytes / 4) n)) (fits : length bytes / 4 ≤ n) where
  pub read_is : read ≡ numbers_in_whole bytes
  unfolding numbers_in_whole
  read_is = let all : min (length bytes / 4) n ≡ length bytes / 4 = omega arith in e ∙ rw all

  pub read_long : length read ≡ length bytes / 4
  read_long = ap length read_is ∙ whole_long bytes

-- and so are the first numbers of the room
module _ (bytes room x : List ℕ) (fits : length bytes / 4 ≤ length room) (read : x ≡ numbers_read bytes (take (length bytes / 4) room)) where
  just_room : length (take (length bytes / 4) room) ≡ length bytes / 4
  just_room = length-take-le (length bytes / 4) room fits

  pub front_is : take (length bytes / 4) (x ++ drop (length bytes / 4) room) ≡ numbers_in_whole bytes
  unfolding numbers_in_whole
  front_is =
      take_at x (drop (length bytes / 4) room) (length bytes / 4)
      (ap length read ∙ numbers_stay bytes (take (length bytes / 4) room) ∙ just_room)
      ∙ read
      ∙ read_whole bytes (take (length bytes / 4) room) just_room

  pub front_count : length bytes / 4 ≡ length (take (length bytes / 4) (x ++ drop (length bytes / 4) room))
  front_count = sym (ap length front_is ∙ whole_long bytes)

-- just the room for the lines of a list of n numbers, w a line, at the front of longer room
pub lines_room : (w : ℕ) (room : List ℕ) (n long lines : ℕ) → n ≡ long → lines ≡ count_in n → w * lines ≤ length room
    → length (take (w * lines) room) ≡ w * count_in long
lines_room w room n long lines e q h = length-take-le (w * lines) room h ∙ rw (q, e)
