-- With the room of every answer the line of a refusal is printed.
-- Assumes nothing.
use native.Mathlib.Omega.{arith}
use Rattle.text.proofs.PrintLaws.{prints}
use Rattle.text.proofs.answer.refuse.Goals as goal

pub returns : goal.returns
returns c =
    let told = c.print_refusal.ensures in
    rw (← c.from.ensures) (prints _ c.args.out.now _ _ 0 0 (omega arith) (omega arith) c.requires (told.value, told.out_after))
