-- A text is accepted exactly when no row of the table is broken, and then the settlement of its values is.
-- Assumes nothing.
use Prim.Native.Nat.{ℕ}
use mathlib.Core.List.{List}
use mathlib.Core.Logic.{◌↔◌}
use mathlib.Core.Path.{◌≡◌, ◌∙◌}
use native.Mathlib.Omega.{arith}
use lib.ListN.{length-replicate}
use Rattle.book.specs.Length.{book_length}
use Rattle.book.specs.Values.{missing_mark}
use Rattle.calendar.specs.WinterOf.{winter_of}
use Rattle.std.specs.Prelude.{Option}
use Rattle.credit.proofs.Exact.{accepted_iff_settles}
use Rattle.credit.specs.Settlement.{settlement}
use Rattle.dates.specs.Winters.{days}
use Rattle.form.proofs.PlaceLaws.{book_long}
use Rattle.form.specs.Form.{notices_said, reads_said}
use Rattle.laws.proofs.Tables.{Numbered, NoneBroken, accepted_none, none_accepted}
use Rattle.laws.specs.Table.{accepted}
use Rattle.money.proofs.PriceLaws.{right_price}
use Rattle.notices.specs.Profiles.{figures_of}
use Rattle.notices.specs.declared.profiles.Profile.TheVariants.{Credit}
use Rattle.schedule.proofs.Accepted.{notices_lawful}
use Rattle.schedule.proofs.Walk.{notices_numbered}
use Rattle.text.specs.Refusals.{value_rows, text_table, text_refusal}
use Rattle.text.specs.Statement.{room_for}
use Rattle.text.specs.Values.{winter_said, price_said, misplaced_said, no_readings, book_said}

pub values_numbered : (w : ℕ) (line : Option ℕ) (p : ℕ) (l : List ℕ) → Numbered (value_rows w line p l)
unfolding value_rows
values_numbered w line p l = (omega arith, (omega arith, (omega arith, (omega arith, notices_numbered (winter_of w) (figures_of Credit) l))))

module _ (s : List ℕ) where
  numbered : Numbered (text_table s)
  unfolding text_table
  numbered = (omega arith, (omega arith, values_numbered (winter_said s) (misplaced_said s) (price_said s) (notices_said s)))

  -- ACCEPTED EXACTLY WHEN NO ROW IS BROKEN
  pub accepted_iff_none : (text_refusal s ≡ accepted) ↔ NoneBroken (text_table s)
  unfolding text_refusal
  accepted_iff_none = (accepted_none (text_table s) numbered, none_accepted (text_table s))

  -- AND AN ACCEPTED TEXT IS SETTLED: nothing refuses the settlement of its values
  pub accepted_settles : text_refusal s ≡ accepted
      → (settlement (winter_said s) (book_said s) (price_said s) (notices_said s) (room_for (notices_said s))).number ≡ 0
  unfolding text_table value_rows
  accepted_settles ok =
      let values = (accepted_iff_none.0 ok).1.1 in
      let placed = values.1.1 in
      let priced = placed.1 in
      (accepted_iff_settles (winter_said s) (price_said s) (book_said s) (notices_said s) (room_for (notices_said s))).1
      (record {
        book = book_long (reads_said s) (no_readings (winter_said s)) ∙ length-replicate (book_length (days (winter_said s))) missing_mark;
        price = right_price (price_said s) placed.0;
        list = notices_lawful (winter_said s) (figures_of Credit) (notices_said s) values.0 priced.0 priced.1;
        room_enough = omega arith;
      })
