-- The lines of a text and of a statement: a key, then fields with commas between them, ended by byte 10.
-- Assumes nothing.
use Rattle.std.specs.Prelude.{ℕ, List, [], ◌∷◌, ◌++◌, map}
use Prim.Native.String.{String}
use Rattle.numerals.specs.Decimal.{decimal}
use Rattle.numerals.specs.Words.{bytes_of, comma, line_end}

-- a field is the bytes that stand in it
pub record Line : Type 0 where
  pub key : List ℕ
  pub fields : List (List ℕ)

-- a line of numbers
abbrev pub line : String → List ℕ → Line
line key numbers = record { key = bytes_of key; fields = map decimal numbers }

-- the fields of a line, each ended by a comma and the last by byte 10; every line has at least one (rule 8.1)
unfoldable pub field_bytes : List (List ℕ) → List ℕ
field_bytes [] = []
field_bytes (f ∷ []) = f ++ (line_end ∷ [])
field_bytes (f ∷ g ∷ fs) = f ++ (comma ∷ field_bytes (g ∷ fs))

-- a line as bytes
unfoldable pub line_bytes : Line → List ℕ
line_bytes x = x.key ++ field_bytes x.fields

-- lines as bytes, one after the other
unfoldable pub bytes_of_lines : List Line → List ℕ
bytes_of_lines [] = []
bytes_of_lines (x ∷ xs) = line_bytes x ++ bytes_of_lines xs
