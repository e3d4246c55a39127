-- The years that private functions are asked for. To believe the public contracts it need not be read.
-- Assumes nothing.
use Rattle.std.specs.Prelude.{ℕ, ◌/◌, ◌≡◌}

-- a year of the century that begins with 2000, as every year of a winter is
abbrev pub InCentury : ℕ → Type 0
InCentury y = y / 100 ≡ 20
