-- `refusal_of` goes from the call's own rows to those of the energies.
-- Assumes nothing.
use mathlib.Core.Path.{refl, ◌∙◌}
use Rattle.std.proofs.lemmas.Result.{err_from_is_err_and}
use Rattle.money.proofs.RefusalLaws.{call_right, call_refuses, by_energies}
use Rattle.money.proofs.guards.refusal_of.Goals as goal

pub returns-in_err-call_refusal : goal.returns-in_err-call_refusal
returns-in_err-call_refusal c =
    let p = err_from_is_err_and c.from_residual.result c.from_residual.ensures.1 in
    rw (p.1, p.2) (call_refuses _ c.args.energies.now _ _ c.in_err-call_refusal.ensures)

pub energies_refusal-requires : goal.energies_refusal-requires
energies_refusal-requires c = (call_right _ _ _ 0 c.in_ok-call_refusal.ensures refl).few

pub returns : goal.returns
returns c = c.energies_refusal.ensures ∙ by_energies _ c.args.energies.now _ 0 c.in_ok-call_refusal.ensures refl
