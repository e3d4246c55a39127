-- Words as bytes, and the bytes that end numbers and lines.
-- Assumes nothing.
use Prim.Native.Char.{code}
use Rattle.std.specs.Prelude.{ℕ, List, [], ◌∷◌}
use Prim.Native.String as string

-- the bytes of a word of ASCII letters and signs
abbrev pub bytes_of : string.String → List ℕ
bytes_of string.[] = []
bytes_of (string.◌∷◌ c s) = code c ∷ bytes_of s

-- a comma stands between the numbers of a line (rule 8.1)
abbrev pub comma : ℕ
comma = 44

-- rule 8.1: the byte that ends a line
abbrev pub line_end : ℕ
line_end = 10
