-- What the one number of the medium-power settlement tells C: the refusal's number and place are to be read off it, it is 0 exactly where nothing
-- is refused, and beside any other number both outputs are as they were. By the bounds of numbers and places.
-- Assumes nothing.
use Prim.Native.Nat.{ℕ, ◌/◌, ◌%◌}
use mathlib.Core.List.{List}
use mathlib.Core.Path.{◌≡◌, ap}
use native.Mathlib.Omega.{arith}
use lib.ListN.{length}
use Rattle.power.proofs.SettlementLaws.{number_is, settled_accepted, settlement_bounded}
use Rattle.power.specs.Settlement.{PowerSettlement}
use Rattle.wire.specs.Decoded.{decoded}
use Rattle.power_boundary.specs.PowerCalls.{power_lines_over, totals_over, power_settled, power_call, power_bytes, total_bytes}
use Rattle.power_boundary.proofs.PowerLaws.{over_refused, totals_refused, over_accepted, totals_accepted}
use Rattle.boundary.proofs.Told.{packed_told}

module _ (w : ℕ) (book list references out totals : List ℕ) where
  abbrev settled : PowerSettlement
  settled = power_settled w book list references (length out) (length totals)

  abbrev answer : ℕ
  answer = power_call w book list references (length out) (length totals)

  pub power_told : (answer / 65536 ≡ settled.number) × (answer % 65536 ≡ settled.place)
  unfolding power_call
  power_told =
      packed_told _ _ (settlement_bounded w (decoded book) (decoded list) (decoded references) (length out / 8) (length totals / 8)).1

  -- rule 9.5: an accepted call answers 0
  pub power_accepted : settled.number ≡ 0 → answer ≡ 0
  unfolding power_call
  power_accepted z =
      let none = number_is w (decoded book) (decoded list) (decoded references) (length out / 8) (length totals / 8) z in
      let is = settled_accepted w (decoded book) (decoded list) (decoded references) (length out / 8) (length totals / 8) none in
      omega (arith, z, ap (λ (s : PowerSettlement). s.place) is)

  -- rules 9.7, 9.9 and 10.2: a refused call leaves every byte of both outputs
  module _ (f : answer ≡ 0 → ⊥) where
    refused : settled.number ≡ 0 → ⊥
    refused z = f (power_accepted z)

    pub lines_unwritten : out ≡ power_bytes w book list references out totals
    unfolding power_bytes
    lines_unwritten = over_refused settled refused (decoded book) (decoded list) (decoded references) out

    pub totals_unwritten : totals ≡ total_bytes w book list references out totals
    unfolding total_bytes
    totals_unwritten = totals_refused settled refused totals

  -- an accepted one leaves the bytes of its lines and of its totals
  module _ (z : settled.number ≡ 0) where
    pub lines_written : power_lines_over (decoded book) (decoded list) (decoded references) out ≡ power_bytes w book list references out totals
    unfolding power_bytes
    lines_written = over_accepted settled z (decoded book) (decoded list) (decoded references) out

    pub totals_written : totals_over settled totals ≡ total_bytes w book list references out totals
    unfolding total_bytes
    totals_written = totals_accepted settled z totals
