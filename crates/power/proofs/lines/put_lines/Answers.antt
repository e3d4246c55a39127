-- What is left to show of `put_lines`, by the invariant in `Invariants.antt`.
-- Assumes nothing.
use Prim.Native.Nat.{suc}
use mathlib.Core.Path.{◌≡◌, refl, sym, ◌∙◌}
use native.Mathlib.Omega.{arith}
use Rattle.std.proofs.lemmas.List.Edits.{sets-eq}
use Rattle.std.proofs.lemmas.Slice.{put_mid-paste}
use Rattle.notices.specs.Notices.{count_of}
use Rattle.laws.proofs.RowLaws.{filled_all}
use Rattle.power.specs.Lines.{power_line}
use Rattle.power.specs.Reduced.{reduced_paper}
use Rattle.power.proofs.Carried.{one, carried_none, event_at_lem, more_sum, more_settled, carried_next}
use Rattle.power.proofs.LineLaws.{ready_fits}
use Rattle.power.proofs.lines.put_lines.Goals as goal

pub loop-k-init : goal.loop-k-init
loop-k-init c = carried_none

pub reduced_of-r-requires : goal.reduced_of-r-requires
reduced_of-r-requires c = rw c.notice_at.ensures (c.requires.each _ (rw c.requires.as_many at c.loop-k-test.true))

pub overflow_add-sum : goal.overflow_add-sum
overflow_add-sum c =
    let book = c.args.book.now in
    let list = c.args.list.now in
    let references = c.args.references.now in
    let is = event_at_lem book list references c.loop-k.k _ _ _ refl c.notice_at.ensures c.reduced_of-r.ensures in
    let fits = ready_fits book list references c.requires (suc c.loop-k.k) (rw c.requires.as_many at c.loop-k-test.true) in
    omega (arith, more_sum book list references c.loop-k.invariant c.requires (rw c.requires.as_many at c.loop-k-test.true) _ is, fits.sum_most, fits.few)

pub overflow_add-settled : goal.overflow_add-settled
overflow_add-settled c =
    let book = c.args.book.now in
    let list = c.args.list.now in
    let references = c.args.references.now in
    let is = event_at_lem book list references c.loop-k.k _ _ _ refl c.notice_at.ensures c.reduced_of-r.ensures in
    let fits = ready_fits book list references c.requires (suc c.loop-k.k) (rw c.requires.as_many at c.loop-k-test.true) in
    let more = more_settled book list references c.loop-k.invariant c.requires (rw c.requires.as_many at c.loop-k-test.true) _ is in
    omega (arith, c.from-settled.ensures ∙ one _ c.is_ok.ensures.value, more, fits.sum_most, fits.few)

pub loop-k-preserved : goal.loop-k-preserved
loop-k-preserved c =
    let book = c.args.book.now in
    let list = c.args.list.now in
    let references = c.args.references.now in
    let is = event_at_lem book list references c.loop-k.k _ _ _ refl c.notice_at.ensures c.reduced_of-r.ensures in
    let out = c.loop-k.out in
    let line = power_line (reduced_paper c.reduced_of-r.result) in
    carried_next book list references c.loop-k.invariant c.requires (rw c.requires.as_many at c.loop-k-test.true) _ is _
    (c.from-settled.ensures ∙ one _ c.is_ok.ensures.value) _
    (put_mid-paste _ _ out _ line 4 (rw c.line_numbers.ensures at c.copy_from_slice.ensures.after) (omega arith) refl ∙ sym (sets-eq line out _ (omega arith)))

pub returns : goal.returns
returns c =
    let all : c.loop-k.k ≡ count_of c.args.list.now = omega arith in
    let inv = c.loop-k.invariant in
    record { value = rw (inv.sum_is, inv.settled_is, all); out_after = filled_all inv.filled (omega arith) }
