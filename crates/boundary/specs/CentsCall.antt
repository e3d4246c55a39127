-- The cents on bytes: the same definitions, on the energies that the bytes stand for.
-- Assumes nothing.
use Rattle.std.specs.Prelude.{ℕ, ◌/◌, cond, List, eqb, length}
use Rattle.money.specs.Cents.{cents_to}
use Rattle.money.specs.Pricing.{Priced, cents_of}
use Rattle.wire.specs.Bytes.{bytes_over}
use Rattle.wire.specs.Decoded.{decoded}
use Rattle.boundary.specs.Calls.{packed}

abbrev pub packed_priced : Priced → ℕ
packed_priced s = packed s.number s.place

-- the cents of numbers put over the bytes of an output, which has room for so many numbers
unfoldable pub cents_over : ℕ → List ℕ → ℕ → List ℕ → List ℕ
cents_over p energies room out = cond (eqb (cents_of p energies room).number 0) (bytes_over (cents_to p energies) (length energies) out) out

-- the cents; energies with bytes over are too many, and 64-bit numbers of the output have eight bytes (rule 9.4)
unfoldable pub cents_call : ℕ → List ℕ → ℕ → ℕ
cents_call p energies bytes = packed_priced (cents_of p (decoded energies) (bytes / 8))

-- and what they leave in the output
unfoldable pub cents_bytes : ℕ → List ℕ → List ℕ → List ℕ
cents_bytes p energies out = cents_over p (decoded energies) (length out / 8) out
