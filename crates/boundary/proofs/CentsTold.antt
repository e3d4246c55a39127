-- What the one number of the cents tells: the refusal's number and place are to be read off it, it is 0 exactly where nothing is refused, and beside
-- any other number the output is as it was. By the bounds of numbers and places.
-- Assumes nothing.
use Prim.Native.Nat.{ℕ, ◌/◌, ◌%◌}
use mathlib.Core.List.{List}
use mathlib.Core.Path.{◌≡◌, ap}
use native.Mathlib.Omega.{arith}
use lib.ListN.{length}
use borrow.Author.Tests.{eq-eqb, ne_eqb}
use Rattle.money.proofs.PricingLaws.{number_is, answer_accepted, answer_bounded}
use Rattle.money.specs.Cents.{cents_to}
use Rattle.money.specs.Pricing.{Priced, cents_of}
use Rattle.wire.specs.Bytes.{bytes_over}
use Rattle.wire.specs.Decoded.{decoded}
use Rattle.boundary.specs.CentsCall.{cents_over, cents_call, cents_bytes}
use Rattle.boundary.proofs.Told.{packed_told}

module _ (p : ℕ) (energies out : List ℕ) where
  abbrev priced : Priced
  priced = cents_of p (decoded energies) (length out / 8)

  pub cents_told : (cents_call p energies (length out) / 65536 ≡ priced.number) × (cents_call p energies (length out) % 65536 ≡ priced.place)
  unfolding cents_call
  cents_told = packed_told _ _ (answer_bounded p (decoded energies) (length out / 8)).1

  -- rule 9.5: an accepted call answers 0
  pub cents_accepted : priced.number ≡ 0 → cents_call p energies (length out) ≡ 0
  unfolding cents_call
  cents_accepted z =
      let none = number_is p (decoded energies) (length out / 8) z in
      omega (arith, z, ap (λ (s : Priced). s.place) (answer_accepted p (decoded energies) (length out / 8) none))

  -- rule 10.2: a refused call leaves every byte
  pub cents_unwritten : (cents_call p energies (length out) ≡ 0 → ⊥) → cents_bytes p energies out ≡ out
  unfolding cents_bytes cents_over
  cents_unwritten f = rw (ne_eqb priced.number 0 (λ (z : priced.number ≡ 0). f (cents_accepted z)))

  -- an accepted one leaves the bytes of its cents
  pub cents_written_lem : priced.number ≡ 0 → cents_bytes p energies out ≡ bytes_over (cents_to p (decoded energies)) (length (decoded energies)) out
  unfolding cents_bytes cents_over
  cents_written_lem z = rw (eq-eqb priced.number 0 z)
