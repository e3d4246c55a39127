-- What the one number of the energies tells: the refusal's number and place are to be read off it, it is 0 exactly where nothing is refused, and
-- beside any other number the output is as it was. By the bounds of numbers and places.
-- Assumes nothing.
use Prim.Native.Nat.{ℕ, ◌/◌, ◌%◌}
use mathlib.Core.List.{List}
use mathlib.Core.Path.{◌≡◌, ap}
use native.Mathlib.Omega.{arith}
use lib.ListN.{length}
use borrow.Author.Tests.{eq-eqb, ne_eqb}
use Rattle.settlement.proofs.EnergiesLaws.{number_is, answer_accepted, answer_bounded}
use Rattle.settlement.specs.Energies.{Spared, energies_of}
use Rattle.wire.specs.Decoded.{decoded}
use Rattle.boundary.specs.EnergiesCall.{energy_lines_over, energies_over, energies_call, energies_bytes}
use Rattle.boundary.proofs.Told.{packed_told}

module _ (w : ℕ) (book list out : List ℕ) where
  abbrev spared : Spared
  spared = energies_of w (decoded book) (decoded list) (length out / 8)

  pub energies_told : (energies_call w book list (length out) / 65536 ≡ spared.number) × (energies_call w book list (length out) % 65536 ≡ spared.place)
  unfolding energies_call
  energies_told = packed_told _ _ (answer_bounded w (decoded book) (decoded list) (length out / 8)).1

  -- rule 9.5: an accepted call answers 0
  pub energies_accepted : spared.number ≡ 0 → energies_call w book list (length out) ≡ 0
  unfolding energies_call
  energies_accepted z =
      let none = number_is w (decoded book) (decoded list) (length out / 8) z in
      omega (arith, z, ap (λ (s : Spared). s.place) (answer_accepted w (decoded book) (decoded list) (length out / 8) none))

  -- rule 10.2: a refused call leaves every byte
  pub energies_unwritten : (energies_call w book list (length out) ≡ 0 → ⊥) → energies_bytes w book list out ≡ out
  unfolding energies_bytes energies_over
  energies_unwritten f = rw (ne_eqb spared.number 0 (λ (z : spared.number ≡ 0). f (energies_accepted z)))

  -- an accepted one leaves the bytes of its lines
  pub lines_written : spared.number ≡ 0 → energies_bytes w book list out ≡ energy_lines_over w (decoded book) (decoded list) out
  unfolding energies_bytes energies_over
  lines_written z = rw (eq-eqb spared.number 0 z)
