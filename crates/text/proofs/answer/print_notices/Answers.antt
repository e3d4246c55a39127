-- A wrong price is refused, and then more than 100 notices; the notices that the array holds are settled with just the room for their lines.
-- Assumes nothing.
use Prim.Native.Nat.{ℕ}
use Rattle.std.specs.Prelude.{Option, None}
use mathlib.Core.List.{List}
use mathlib.Core.Path.{sym, ap, ◌∙◌}
use native.Mathlib.Omega.{arith}
use lib.ListN.{length-take}
use Rattle.dates.proofs.Promise.{winter_range}
use Rattle.laws.proofs.Guards.{found}
use Rattle.money.proofs.PriceLaws.{right_price}
use Rattle.text.specs.Prints.{values_bytes}
use Rattle.text.proofs.PrintLaws.{prints_same, list_front}
use Rattle.text.proofs.ValueLaws.{price_refused, list_refused, many_bad}
use Rattle.text.proofs.answer.print_notices.Goals as goal

pub returns-then-bad_price : goal.returns-then-bad_price
returns-then-bad_price c =
    let bad = found c.bad_price.ensures c.if-bad_price.true in
    record { for_each = λ l h. prints_same c.refuse.ensures (price_refused _ _ l _ _ c.requires.winter c.requires.placed bad) }

pub returns-then-events-gt-MOST_NOTICES : goal.returns-then-events-gt-MOST_NOTICES
returns-then-events-gt-MOST_NOTICES c =
    let right = found c.bad_price.ensures c.if-bad_price.false in
    record {
      for_each = λ l h. prints_same c.refuse-then-events-gt-MOST_NOTICES.ensures
          (list_refused _ _ l _ _ c.requires.winter c.requires.placed right (many_bad l _ h.three c.if-events-gt-MOST_NOTICES.true));
    }

pub print_settled-requires : goal.print_settled-requires
print_settled-requires c =
    record {
      call =
          record {
            winter = (winter_range _).0 c.requires.winter;
            book = c.requires.days;
            price = right_price _ (found c.bad_price.ensures c.if-bad_price.false);
            whole = simp length-take (omega arith);
            few = simp length-take (omega arith);
            room_enough = simp length-take (omega arith);
          };
      just = simp length-take (omega arith);
      room = c.requires.room;
    }

pub returns : goal.returns
returns c =
    let shape = c.args.shape in
    let book = c.args.book.now in
    let few = c.if-events-gt-MOST_NOTICES.false in
    record {
      for_each = λ l h. prints_same c.print_settled.ensures
          (ap (λ (x : List ℕ). values_bytes shape.winter shape.price x None book) (list_front shape.events l c.args.list.now few h)
          ∙ ap (λ (line : Option ℕ). values_bytes shape.winter shape.price l line book) (sym c.requires.placed));
    }
