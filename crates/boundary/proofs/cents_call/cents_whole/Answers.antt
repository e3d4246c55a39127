-- `cents_whole` has room for as many energies as are priced: what is read into its front is what is priced.
-- Assumes nothing.
use mathlib.Core.Path.{sym}
use native.Mathlib.Omega.{arith}
use lib.Seq.{length-take-le}
use Rattle.money.specs.Worth.{most_energies}
use Rattle.boundary.proofs.CentsLaws.{just_refused, just_cents}
use Rattle.boundary.proofs.Fronts.{read_is, read_long}
use Rattle.boundary.proofs.cents_call.cents_whole.Goals as goal

pub slice_bounds-room-end : goal.slice_bounds-room-end
slice_bounds-room-end c = let long = read_long c.args.energies.now most_energies c.read_front-energies.ensures.value (omega arith) in omega (arith, long)

pub slice_bounds-cents-end : goal.slice_bounds-cents-end
slice_bounds-cents-end c =
    let long = read_long c.args.energies.now most_energies c.read_front-energies.ensures.value (omega arith) in
    sym (length-take-le _ _ (omega (arith, long)))

pub returns-in_err-cents : goal.returns-in_err-cents
returns-in_err-cents c =
    let is = read_is c.args.energies.now most_energies c.read_front-energies.ensures.value (omega arith) in
    let long = read_long c.args.energies.now most_energies c.read_front-energies.ensures.value (omega arith) in
    rw (← is)
    (just_refused _ c.read_front-energies.result.now _ c.args.out.now (length-take-le _ _ (omega (arith, long))) (omega (arith, long))
    _ _ c.from_residual.ensures.1 c.in_err-cents.ensures.value)

pub returns : goal.returns
returns c =
    let is = read_is c.args.energies.now most_energies c.read_front-energies.ensures.value (omega arith) in
    let long = read_long c.args.energies.now most_energies c.read_front-energies.ensures.value (omega arith) in
    rw (← is)
    (just_cents _ c.read_front-energies.result.now _ c.args.out.now (length-take-le _ _ (omega (arith, long))) (omega (arith, long))
    _ c.in_ok-cents.ensures.value c.in_ok-cents.ensures.out_after c.cents.auto.out c.write_numbers.ensures)
