-- Laws of writing: how many bytes are written, and what is written where all numbers have room.
-- Assumes nothing.
use Prim.Native.Nat.{ℕ, ◌+◌, ◌*◌, ◌≤◌}
use mathlib.Core.List.{List, append_assoc}
use mathlib.Core.Path.{◌≡◌, refl, sym}
use native.Mathlib.Omega.{arith}
use borrow.Rule.Slice.PartMut.{put_mid}
use lib.ListN.{length, get_or, take, drop}
use lib.Seq.{sets, sets-eq, drop-drop}
use Rattle.laws.proofs.RowLaws.{Wide, rows_long}
use Rattle.wire.specs.Bytes.{eight_bytes, bytes_to, bytes_over, written_count, bytes_written}

-- a part of a list that others are put in place of: they are stored from its start on
pub put_stores : (bytes vs : List ℕ) (i : ℕ) {n : ℕ} → i + length vs ≤ length bytes → n ≡ length vs → put_mid i n bytes vs ≡ sets bytes i vs
put_stores bytes vs i {n} h e = rw (e, sets-eq vs bytes i h, drop-drop (length vs) i bytes) (sym (append_assoc (take i bytes) vs (drop (i + length vs) bytes)))

module _ (numbers : List ℕ) where
  pub eight_wide : Wide 8 (λ (k : ℕ). eight_bytes (get_or numbers k 0))
  unfolding eight_bytes
  eight_wide = record { long = λ k. refl }

  pub bytes_long : (k : ℕ) → length (bytes_to numbers k) ≡ 8 * k
  bytes_long = rows_long eight_wide

  -- with room for every number all are written, and the bytes over stay
  pub written_whole : (bytes : List ℕ) → 8 * length numbers ≤ length bytes
      → bytes_written numbers bytes ≡ bytes_over numbers (length numbers) bytes
  unfolding bytes_written
  written_whole bytes h = let n : written_count numbers bytes ≡ length numbers = omega arith in rw n
