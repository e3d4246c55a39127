-- The numbers that the bytes of a lent input stand for.
-- Assumes nothing.
use Rattle.std.specs.Prelude.{ℕ, ◌/◌, ◌%◌, cond, List, eqb, length, replicate}
use Rattle.wire.specs.Bytes.{numbers_to}

-- more numbers than any book or list has (rule 9.3)
abbrev pub too_many : ℕ
too_many = 65536

-- rule 9.3: a length with bytes over counts as too many numbers
unfoldable pub number_count : ℕ → ℕ
number_count length = cond (eqb (length % 4) 0) (length / 4) too_many

unfoldable pub decoded : List ℕ → List ℕ
decoded bytes = cond (eqb (length bytes % 4) 0) (numbers_to bytes (length bytes / 4)) (replicate too_many 0)
