-- `settle` decides everything that can refuse, and only then writes; what is not refused is ready.
-- Assumes nothing.
use mathlib.Core.Bool.{false}
use mathlib.Core.Path.{◌≡◌, sym, ap, ◌∙◌}
use lib.ListN.{length}
use Rattle.std.proofs.lemmas.Result.{err_from_is_err_and}
use Rattle.laws.specs.Table.{is_refusal}
use Rattle.power.specs.Refusals.{total_numbers, power_refusal}
use Rattle.power.proofs.RefusalLaws.{unrefused_settles}
use Rattle.power.proofs.SettlementLaws.{settles_ready, settled_accepted, refused_lem, refused_answer, written_by_lem, written_accepted}
use Rattle.power.proofs.call.settle.Goals as goal

pub returns-in_err-refusal_of : goal.returns-in_err-refusal_of
returns-in_err-refusal_of c =
    let p = err_from_is_err_and c.from_residual.result c.from_residual.ensures.1 in
    let said = c.in_err-refusal_of.ensures in
    let book = c.args.book.now in
    let list = c.args.list.now in
    let references = c.args.references.now in
    let out = c.args.out.now in
    rw (p.1, p.2)
    (record {
      value = refused_answer _ book list references (length out) total_numbers _ said;
      out_after = sym (written_by_lem _ book list references out total_numbers
          (refused_lem _ book list references (length out) total_numbers _ said));
    })

pub settle_accepted-requires : goal.settle_accepted-requires
settle_accepted-requires c = settles_ready (unrefused_settles _ _ _ _ _ total_numbers (ap is_refusal (sym c.in_ok-refusal_of.ensures)))

pub returns : goal.returns
returns c =
    let book = c.args.book.now in
    let list = c.args.list.now in
    let references = c.args.references.now in
    let out = c.args.out.now in
    let none : is_refusal (power_refusal c.args.winter (length book) list references (length out) total_numbers) ≡ false =
    ap is_refusal (sym c.in_ok-refusal_of.ensures) in
    record {
      value = rw c.settle_accepted.ensures.value (sym (settled_accepted _ book list references (length out) total_numbers none));
      out_after = c.settle_accepted.ensures.out_after ∙ sym (written_accepted _ book list references out total_numbers none);
    }
