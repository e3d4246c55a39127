-- What the private functions ask and ensure: the cents on bytes whose lengths are right.
-- Assumes nothing.
use Rattle.std.specs.Prelude.{ℕ, ◌*◌, ◌/◌, ◌≤◌, List, ◌≡◌, length}
use Rattle.money.specs.Pricing.{cents_of}
use Rattle.money.specs.Worth.{most_energies}
use Rattle.boundary.specs.CentsCall.{packed_priced, cents_over}

-- there is room for the energies, and for their cents in the output
pub record CentsLengths (energies out : ℕ) : Type 0 where
  pub few : energies / 4 ≤ most_energies
  pub room_enough : 8 * (energies / 4) ≤ out

-- the cents have just their room, and so have their bytes in the output
pub record CentsRoom (energies : List ℕ) (cents out : ℕ) : Type 0 where
  pub just : cents ≡ length energies
  pub bytes_fit : 8 * cents ≤ out

-- what the cents of numbers leave, with just the room: their answer to C, and the bytes of the output
pub record PricedBytes (p : ℕ) (energies out : List ℕ) (answer : ℕ) (after : List ℕ) : Type 0 where
  pub answer_is : answer ≡ packed_priced (cents_of p energies (length energies))
  pub bytes_are : after ≡ cents_over p energies (length energies) out
