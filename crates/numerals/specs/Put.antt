-- What a writing function does to the lent output, and the room that a line asks for.
-- Assumes nothing.
use Rattle.std.specs.Prelude.{ℕ, ◌+◌, ◌*◌, Bool, cond, List, [], map, ◌≡◌, ltb, length}
use Rattle.std.proofs.lemmas.List.Edits.{sets}
use Rattle.numerals.specs.Decimal.{decimal}
use Rattle.numerals.specs.Lines.{line_bytes}
use Rattle.numerals.specs.Words.{comma, line_end}

-- the bytes stand from index `at` on, nothing else changed, and `next` is the index after them
pub record Put (before : List ℕ) (at : ℕ) (bytes : List ℕ) (next : ℕ) (after : List ℕ) : Type 0 where
  pub ends : next ≡ at + length bytes
  pub holds : after ≡ sets before at bytes

-- the byte that ends a number of a line, by whether others follow it
abbrev pub end_before : Bool → ℕ
end_before more = cond more comma line_end

-- the bytes that hold a number of 64 bits and the byte that ends it, whatever it is
abbrev pub field_room : ℕ
field_room = 21

-- whether an output so long has not the room for a key and so many numbers from index `at` on (rule 8.17)
unfoldable pub no_room : ℕ → ℕ → ℕ → ℕ → Bool
no_room long at key count = ltb long (at + key + field_room * count)

-- what is put of a line of a key and numbers: all of it, or nothing where there is no room (rule 8.17)
unfoldable pub line_put : ℕ → ℕ → List ℕ → List ℕ → List ℕ
line_put long at key ns = cond (no_room long at (length key) (length ns)) [] (line_bytes (record { key = key; fields = map decimal ns }))
