-- Laws of lengths that the medium-power settlement's call does not refuse: they are of whole numbers, and there is room for these.
-- Assumes nothing.
use Prim.Native.Nat.{ℕ, ◌*◌, ◌/◌, ◌%◌, ◌≤◌}
use mathlib.Core.Path.{◌≡◌}
use native.Mathlib.Omega.{arith}
use Rattle.dates.proofs.Promise.{days_range}
use Rattle.notices.specs.Notices.{count_in}
use Rattle.power.proofs.CallLaws.{RightPower}
use Rattle.power.specs.Lines.{power_line_numbers}
use Rattle.wire.proofs.DecodedLaws.{whole_numbers}
use Rattle.wire.specs.Decoded.{number_count}
use Rattle.power_boundary.specs.PowerWhole.{PowerLengths}

pub record PowerRight (book list references out totals : ℕ) : Type 0 where
  pub book_whole : book % 4 ≡ 0
  pub list_whole : list % 4 ≡ 0
  pub references_whole : references % 4 ≡ 0
  pub lines_fit : power_line_numbers * count_in (list / 4) ≤ out / 8
  pub lengths : PowerLengths book list references out totals

pub power_right : (w book list references out totals : ℕ)
    → RightPower w (number_count book) (number_count list) (out / 8) (totals / 8) (number_count references) → PowerRight book list references out totals
power_right w book list references out totals s =
    let most = days_range w in
    let hours = s.book in
    let few = s.few in
    let whole = s.whole in
    let as_many = s.as_many in
    let b = whole_numbers book (omega arith) in
    let l = whole_numbers list (omega arith) in
    let r = whole_numbers references (omega arith) in
    let room : power_line_numbers * count_in (list / 4) ≤ out / 8 = rw (← l.count) s.room_enough in
    record {
      book_whole = b.none_over;
      list_whole = l.none_over;
      references_whole = r.none_over;
      lines_fit = room;
      lengths = record {
        hours = omega (arith, b.count);
        notices = omega (arith, l.count);
        powers = omega (arith, r.count);
        room_enough = omega arith;
        totals_for = omega (arith, s.totals_for);
      };
    }
