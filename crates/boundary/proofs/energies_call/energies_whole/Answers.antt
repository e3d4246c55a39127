-- `energies_whole` has room for the numbers of every book and list of the right lengths: what is read into its front is what is worked out.
-- Assumes nothing.
use mathlib.Core.Path.{sym, refl}
use native.Mathlib.Omega.{arith}
use lib.ListN.{length-take}
use lib.Seq.{length-take-le}
use Rattle.book.specs.Length.{most_readings}
use Rattle.notices.specs.Notices.{longest_list}
use Rattle.settlement.specs.Lines.{line_numbers}
use Rattle.boundary.proofs.Fronts.{read_is, read_long, lines_room}
use Rattle.boundary.proofs.EnergiesLaws.{just_refused, just_lines}
use Rattle.boundary.proofs.energies_call.energies_whole.Goals as goal

pub slice_bounds-room-end : goal.slice_bounds-room-end
slice_bounds-room-end c =
    let long = read_long c.args.list.now longest_list c.read_front-list.ensures.value (omega arith) in
    omega (arith, long, c.count_in.ensures)

pub slice_bounds-lines-end : goal.slice_bounds-lines-end
slice_bounds-lines-end c =
    let long = read_long c.args.list.now longest_list c.read_front-list.ensures.value (omega arith) in
    sym (length-take-le _ _ (omega (arith, long, c.count_in.ensures)))

pub returns-in_err-energies : goal.returns-in_err-energies
returns-in_err-energies c =
    let book_is = read_is c.args.book.now most_readings c.read_front-book.ensures.value (omega arith) in
    let list_is = read_is c.args.list.now longest_list c.read_front-list.ensures.value (omega arith) in
    let long = read_long c.args.list.now longest_list c.read_front-list.ensures.value (omega arith) in
    let lines = c.count_in.ensures in
    rw (← book_is, ← list_is)
    (just_refused _ c.read_front-book.result.now c.read_front-list.result.now _ c.args.out.now
    (lines_room line_numbers _ _ _ _ refl lines (omega (arith, long, lines))) (simp length-take (omega (arith, long, lines)))
    _ _ c.from_residual.ensures.1 c.in_err-energies.ensures.value)

pub returns : goal.returns
returns c =
    let book_is = read_is c.args.book.now most_readings c.read_front-book.ensures.value (omega arith) in
    let list_is = read_is c.args.list.now longest_list c.read_front-list.ensures.value (omega arith) in
    let long = read_long c.args.list.now longest_list c.read_front-list.ensures.value (omega arith) in
    let lines = c.count_in.ensures in
    rw (← book_is, ← list_is)
    (just_lines _ c.read_front-book.result.now c.read_front-list.result.now _ c.args.out.now
    (lines_room line_numbers _ _ _ _ refl lines (omega (arith, long, lines))) (simp length-take (omega (arith, long, lines)))
    _ c.in_ok-energies.ensures.value c.in_ok-energies.ensures.out_after c.energies.auto.out c.write_numbers.ensures)
