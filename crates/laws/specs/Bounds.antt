-- Bounds that more than one layer keeps, each named here once.
-- Assumes nothing.
use Rattle.std.specs.Prelude.{ℕ}

-- the largest energy of an event, in eighteenths of a Wh: none is larger, and money takes any that is not (rule 6.10)
abbrev pub largest_energy : ℕ
largest_energy = 1500000000

-- no refusal has a larger number or a larger place than these, so that 65,536 times the one plus the other is a number of 32 bits (rule 9.6)
abbrev pub largest_number : ℕ
largest_number = 255

abbrev pub largest_place : ℕ
largest_place = 65535
