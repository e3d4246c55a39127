-- Laws of lengths that the call of the energies does not refuse: they are of whole numbers, and there is room for these.
-- Assumes nothing.
use Prim.Native.Nat.{ℕ, ◌*◌, ◌/◌, ◌%◌, ◌≤◌}
use mathlib.Core.Logic.{⊎_elim}
use mathlib.Core.Path.{◌≡◌}
use native.Mathlib.Omega.{arith}
use Rattle.dates.proofs.Promise.{days_two}
use Rattle.dates.specs.Winters.{days}
use Rattle.notices.specs.Notices.{count_in}
use Rattle.settlement.proofs.CallLaws.{RightCall}
use Rattle.settlement.specs.Lines.{line_numbers}
use Rattle.wire.proofs.DecodedLaws.{whole_numbers}
use Rattle.wire.specs.Decoded.{number_count}
use Rattle.boundary.specs.EnergiesWhole.{EnergiesLengths}

pub record RightEnergies (book list out : ℕ) : Type 0 where
  pub book_whole : book % 4 ≡ 0
  pub list_whole : list % 4 ≡ 0
  pub lines_fit : line_numbers * count_in (list / 4) ≤ out / 8
  pub lengths : EnergiesLengths book list out

pub right_energies : (w book list out : ℕ) → RightCall w (number_count book) (number_count list) (out / 8) → RightEnergies book list out
right_energies w book list out s =
    let most : days w ≤ 152 = ⊎_elim (λ (e : days w ≡ 151). omega arith) (λ (e : days w ≡ 152). omega arith) (days_two w) in
    let hours = s.book in
    let few = s.few in
    let whole = s.whole in
    let b = whole_numbers book (omega arith) in
    let l = whole_numbers list (omega arith) in
    let room : line_numbers * count_in (list / 4) ≤ out / 8 = rw (← l.count) s.room_enough in
    record {
      book_whole = b.none_over;
      list_whole = l.none_over;
      lines_fit = room;
      lengths = record { hours = omega (arith, b.count); notices = omega (arith, l.count); room_enough = omega arith };
    }
