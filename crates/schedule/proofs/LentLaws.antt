-- Laws of a list that is lent as bytes: whether number 4 refuses it, what stands in one that it does not refuse, and its notices.
-- Assumes nothing.
use Prim.Native.Nat.{ℕ, ◌+◌, ◌-◌, ◌*◌, ◌%◌, ◌≤◌, ◌<◌}
use mathlib.Core.Bool.{Bool, false}
use mathlib.Core.List.{List}
use mathlib.Core.Path.{◌≡◌, sym, ap, ◌∙◌}
use native.Mathlib.Omega.{arith}
use lib.ListN.{length, get_or, take, drop}
use Rattle.notices.proofs.NoticeLaws.{notice_read}
use Rattle.notices.specs.Notices.{notice_numbers, most_notices, count_in, count_of, notice_at}
use Rattle.wire.proofs.DecodedLaws.{decoded_long, decoded_fourth, Whole, whole_numbers, number_in}
use Rattle.wire.specs.Bytes.{number_at}
use Rattle.wire.specs.Decoded.{number_count, decoded}
use Rattle.schedule.specs.ListCheck.{bad_list}
use Rattle.schedule.proofs.Walk.{list_fits}

-- by how many numbers the bytes are
module _ (bytes : List ℕ) (n : ℕ) (counted : n ≡ number_count (length bytes)) where
  pub lent_bad : {b : Bool} → bad_list n ≡ b → bad_list (length (decoded bytes)) ≡ b
  lent_bad e = ap bad_list (decoded_long bytes ∙ sym counted) ∙ e

  -- a list that is not refused: no byte is over, and it has at most a hundred notices
  pub record LentList : Type 0 where
    pub whole : length bytes % 4 ≡ 0
    pub few : count_in n ≤ most_notices
    pub there : count_in n ≡ count_of (decoded bytes)

  pub lent_list_lem : bad_list n ≡ false → LentList
  lent_list_lem e =
      let fits = list_fits n e in
      let some : Whole (length bytes) = whole_numbers (length bytes) (omega (arith, counted, fits.few, fits.whole)) in
      record { whole = some.none_over; few = fits.few; there = ap count_in (counted ∙ sym (decoded_long bytes)) }

-- how many bytes a notice has
abbrev notice_bytes : ℕ
notice_bytes = 4 * notice_numbers

-- these bytes of a notice are its numbers
module _ (bytes : List ℕ) (k : ℕ) (whole : length bytes % 4 ≡ 0) (there : k < count_of (decoded bytes)) where
  pub lent_there : k * notice_bytes + notice_bytes ≤ length bytes
  lent_there = omega (arith, decoded_fourth bytes whole)

  -- as the code cuts them out
  abbrev part : List ℕ
  part = take (k * notice_bytes + notice_bytes - k * notice_bytes) (drop (k * notice_bytes) bytes)

  number_there : (i : ℕ) → i < 3 → number_at part i ≡ get_or (decoded bytes) (k * notice_numbers + i) 0
  number_there i h =
      let long : k * notice_bytes + notice_bytes - k * notice_bytes ≡ notice_bytes = omega arith in
      rw long (number_in bytes (k * notice_bytes) notice_bytes lent_there (k * notice_numbers) i whole (omega arith) (omega arith))

  pub lent_read : {day start end : ℕ} → day ≡ number_at part 0 → start ≡ number_at part 1 → end ≡ number_at part 2
      → record { day = day; start = start; end = end } ≡ notice_at (decoded bytes) k
  lent_read d s e =
      let first : k * notice_numbers + 0 ≡ k * notice_numbers = omega arith in
      rw (d, s, e, number_there 0 (omega arith), first, number_there 1 (omega arith), number_there 2 (omega arith))
      (notice_read (decoded bytes) k there)
