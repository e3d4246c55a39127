-- The bytes that a host lends for some numbers of 32 bits (rule 9.2).
-- Assumes nothing.
use Rattle.std.specs.Prelude.{ℕ, ◌/◌, ◌%◌, ◌^◌, List, [], ◌∷◌, ◌++◌}

-- the four bytes of a number, the lowest first
unfoldable pub four_bytes : ℕ → List ℕ
four_bytes v = v % 2 ^ 8 ∷ v / 2 ^ 8 % 2 ^ 8 ∷ v / 2 ^ 16 % 2 ^ 8 ∷ v / 2 ^ 24 % 2 ^ 8 ∷ []

unfoldable pub lent_bytes : List ℕ → List ℕ
lent_bytes [] = []
lent_bytes (v ∷ vs) = four_bytes v ++ lent_bytes vs
