-- The numbers that stand in some bytes: a reader that knows of digits and of what ends a number, and nothing of keys and lines.
-- Assumes nothing.
use Rattle.std.specs.Prelude.{ℕ, Bool, cond, ◌||◌, List, [], ◌∷◌, ◌++◌, map, eqb}
use Rattle.numerals.specs.Decimal.{is_digit, with_digit}
use Rattle.numerals.specs.Lines.{Line}
use Rattle.numerals.specs.Words.{comma, line_end}

-- a comma, or the byte that ends a line
unfoldable pub ends_number : ℕ → Bool
ends_number b = eqb b comma || eqb b line_end

-- the number being read, after one byte more: a digit makes it longer, and any other byte starts afresh
unfoldable pub read_on : ℕ → ℕ → ℕ
read_on v b = cond (is_digit b) (with_digit v b) 0

-- the number that a byte ends, if it ends one
unfoldable pub number_ended : ℕ → ℕ → List ℕ
number_ended v b = cond (ends_number b) (v ∷ []) []

-- the numbers that end in some bytes, where v was read before them
unfoldable pub numbers_from : ℕ → List ℕ → List ℕ
numbers_from v [] = []
numbers_from v (b ∷ bytes) = number_ended v b ++ numbers_from (read_on v b) bytes

-- the numbers that stand in some bytes
abbrev pub numbers_in : List ℕ → List ℕ
numbers_in bytes = numbers_from 0 bytes

-- the number that a field ends in, where v was read before it
unfoldable pub worth_from : ℕ → List ℕ → ℕ
worth_from v [] = v
worth_from v (b ∷ field) = worth_from (read_on v b) field

-- the numbers of a line, and of some lines, one line after the other
abbrev pub numbers_of : Line → List ℕ
numbers_of x = map (worth_from 0) x.fields

unfoldable pub numbers_of_lines : List Line → List ℕ
numbers_of_lines [] = []
numbers_of_lines (x ∷ xs) = numbers_of x ++ numbers_of_lines xs
