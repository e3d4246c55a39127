-- Whatever numbers of 32 bits can be settled or checked can be lent from C as bytes, with the same answer: so what is said of the calls from C is
-- said of them all.
-- Assumes nothing.
use Prim.Native.Nat.{ℕ, ◌/◌}
use mathlib.Core.List.{List}
use mathlib.Core.Path.{◌≡◌, ap, ◌∙◌}
use native.Mathlib.Omega.{arith}
use lib.ListN.{length}
use Rattle.wire.proofs.DecodedLaws.{decoded_whole}
use Rattle.boundary.proofs.Told.{accepted_told}
use Rattle.boundary.specs.Calls.{settle_call}
use Rattle.wire.specs.Decoded.{decoded}
use Rattle.credit.specs.Settlement.{settlement}
use Rattle.laws.proofs.Every.{Every}
use Rattle.power.specs.Settlement.{power_settlement}
use Rattle.power_boundary.proofs.PowerTold.{power_accepted}
use Rattle.power_boundary.specs.PowerCalls.{power_call}
use Rattle.wire.proofs.LentBack.{Fits, lent_long, lent_back}
use Rattle.wire.specs.Bytes.{numbers_to}
use Rattle.wire.specs.Lent.{lent_bytes}

-- the bytes that are lent for some numbers stand for these
pub lent_any : (numbers : List ℕ) → Every Fits numbers → decoded (lent_bytes numbers) ≡ numbers
lent_any numbers fits =
    let long = lent_long numbers in
    let count : length (lent_bytes numbers) / 4 ≡ length numbers = omega (arith, long) in
    decoded_whole (lent_bytes numbers) (omega (arith, long)) ∙ ap (numbers_to (lent_bytes numbers)) count ∙ lent_back numbers fits

pub lent_settles : (winter price : ℕ) (book list out : List ℕ) → Every Fits book → Every Fits list
    → (settlement winter book price list (length out / 8)).number ≡ 0 → settle_call winter (lent_bytes book) price (lent_bytes list) (length out) ≡ 0
lent_settles winter price book list out b l ok =
    accepted_told winter price (lent_bytes book) (lent_bytes list) out (rw (lent_any book b, lent_any list l) ok)

-- the same of a medium-power settlement
pub lent_power_settles : (winter : ℕ) (book list references out totals : List ℕ) → Every Fits book → Every Fits list → Every Fits references
    → (power_settlement winter book list references (length out / 8) (length totals / 8)).number ≡ 0
    → power_call winter (lent_bytes book) (lent_bytes list) (lent_bytes references) (length out) (length totals) ≡ 0
lent_power_settles winter book list references out totals b l r ok =
    power_accepted winter (lent_bytes book) (lent_bytes list) (lent_bytes references) out totals
    (rw (lent_any book b, lent_any list l, lent_any references r) ok)
