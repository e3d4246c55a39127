-- `cents` decides everything that can refuse, and only then writes; what is not refused can be priced.
-- Assumes nothing.
use mathlib.Core.Bool.{false}
use mathlib.Core.Path.{◌≡◌, sym, ap, ◌∙◌}
use lib.ListN.{length}
use Rattle.laws.specs.Table.{is_refusal}
use Rattle.std.proofs.lemmas.Result.{err_from_is_err_and}
use Rattle.money.proofs.PricingLaws.{priced_is, refused_lem, refused_answer, written_by_lem, written_accepted}
use Rattle.money.proofs.RefusalLaws.{unrefused_priceable}
use Rattle.money.specs.Refusals.{cents_refusal}
use Rattle.money.proofs.pricing.cents.Goals as goal

pub returns-in_err-refusal_of : goal.returns-in_err-refusal_of
returns-in_err-refusal_of c =
    let p = err_from_is_err_and c.from_residual.result c.from_residual.ensures.1 in
    let energies = c.args.energies.now in
    let out = c.args.out.now in
    let said = c.in_err-refusal_of.ensures in
    rw (p.1, p.2)
    (record {
      value = refused_answer _ energies (length out) _ said;
      out_after = sym (written_by_lem _ energies out (refused_lem _ energies (length out) _ said));
    })

pub put_cents-requires : goal.put_cents-requires
put_cents-requires c = unrefused_priceable _ _ _ (ap is_refusal (sym c.in_ok-refusal_of.ensures))

pub returns : goal.returns
returns c =
    let energies = c.args.energies.now in
    let out = c.args.out.now in
    let none : is_refusal (cents_refusal c.args.price energies (length out)) ≡ false = ap is_refusal (sym c.in_ok-refusal_of.ensures) in
    record {
      value = priced_is _ energies (length out) none _ c.put_cents.ensures.value;
      out_after = c.put_cents.ensures.out_after ∙ sym (written_accepted _ energies out none);
    }
