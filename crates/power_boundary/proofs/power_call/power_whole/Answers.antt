-- `power_whole` has room for the numbers of every book, list and references of the right lengths: what is read into its front is what is settled.
-- Assumes nothing.
use mathlib.Core.Path.{sym, refl}
use native.Mathlib.Omega.{arith}
use lib.ListN.{length-take}
use lib.Seq.{length-take-le}
use Rattle.book.specs.Length.{most_readings}
use Rattle.notices.specs.Notices.{most_notices, longest_list}
use Rattle.power.specs.Lines.{power_line_numbers}
use Rattle.boundary.proofs.Fronts.{read_is, read_long, lines_room}
use Rattle.power_boundary.proofs.PowerLaws.{just_refused, just_settled}
use Rattle.power_boundary.proofs.power_call.power_whole.Goals as goal

pub slice_bounds-room-end : goal.slice_bounds-room-end
slice_bounds-room-end c =
    let long = read_long c.args.list.now longest_list c.read_front-list.ensures.value (omega arith) in
    omega (arith, long, c.count_in.ensures)

pub slice_bounds-lines-end : goal.slice_bounds-lines-end
slice_bounds-lines-end c =
    let long = read_long c.args.list.now longest_list c.read_front-list.ensures.value (omega arith) in
    sym (length-take-le _ _ (omega (arith, long, c.count_in.ensures)))

pub returns-in_err-s : goal.returns-in_err-s
returns-in_err-s c =
    let book_is = read_is c.args.book.now most_readings c.read_front-book.ensures.value (omega arith) in
    let list_is = read_is c.args.list.now longest_list c.read_front-list.ensures.value (omega arith) in
    let references_are = read_is c.args.references.now most_notices c.read_front-references.ensures.value (omega arith) in
    let long = read_long c.args.list.now longest_list c.read_front-list.ensures.value (omega arith) in
    let lines = c.count_in.ensures in
    rw (← book_is, ← list_is, ← references_are)
    (just_refused _ c.read_front-book.result.now c.read_front-list.result.now c.read_front-references.result.now _ c.args.out.now c.args.totals.now
    (lines_room power_line_numbers _ _ _ _ refl lines (omega (arith, long, lines))) (simp length-take (omega (arith, long, lines))) (omega arith)
    _ _ c.from_residual.ensures.1 c.in_err-s.ensures.value)

pub returns : goal.returns
returns c =
    let book_is = read_is c.args.book.now most_readings c.read_front-book.ensures.value (omega arith) in
    let list_is = read_is c.args.list.now longest_list c.read_front-list.ensures.value (omega arith) in
    let references_are = read_is c.args.references.now most_notices c.read_front-references.ensures.value (omega arith) in
    let long = read_long c.args.list.now longest_list c.read_front-list.ensures.value (omega arith) in
    let lines = c.count_in.ensures in
    rw (← book_is, ← list_is, ← references_are)
    (just_settled _ c.read_front-book.result.now c.read_front-list.result.now c.read_front-references.result.now _ c.args.out.now c.args.totals.now
    (lines_room power_line_numbers _ _ _ _ refl lines (omega (arith, long, lines))) (simp length-take (omega (arith, long, lines))) (omega arith)
    c.in_ok-s.s c.in_ok-s.ensures.value c.in_ok-s.ensures.out_after c.settle.auto.out c.write_numbers.ensures c.write_numbers-2.ensures)
