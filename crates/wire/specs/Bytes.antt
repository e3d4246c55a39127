-- Numbers as bytes, at the boundary to C: rule 9.2. A number that comes in has four bytes, one that goes out has eight.
-- Assumes nothing.
use Rattle.std.specs.Prelude.{ℕ, ◌+◌, ◌*◌, ◌/◌, ◌%◌, ◌^◌, min, cond, List, [], ◌∷◌, ltb, length, get_or}
use Rattle.laws.specs.Rows.{rows_to, rows_over, numbers_over}

-- the 32-bit number in the four bytes from index i on, the lowest byte first (rule 9.2)
unfoldable pub four_bytes_at : List ℕ → ℕ → ℕ
four_bytes_at bytes i = get_or bytes i 0 + 2 ^ 8 * get_or bytes (i + 1) 0 + 2 ^ 16 * get_or bytes (i + 2) 0 + 2 ^ 24 * get_or bytes (i + 3) 0

-- the 64-bit number in the eight bytes from index i on, the lowest byte first: what a host reads
abbrev pub eight_bytes_at : List ℕ → ℕ → ℕ
eight_bytes_at bytes i = four_bytes_at bytes i + 2 ^ 32 * four_bytes_at bytes (i + 4)

-- the number at an index of some bytes, 0 past their last whole number (rules 2.1 and 9.2)
unfoldable pub number_at : List ℕ → ℕ → ℕ
number_at bytes k = cond (ltb k (length bytes / 4)) (four_bytes_at bytes (4 * k)) 0

-- the first k numbers of some bytes
abbrev pub numbers_to : List ℕ → ℕ → List ℕ
numbers_to bytes = rows_to (λ (k : ℕ). four_bytes_at bytes (4 * k) ∷ [])

-- how many numbers are read: as many as the bytes hold whole and there is room for
abbrev pub read_count : List ℕ → List ℕ → ℕ
read_count bytes numbers = min (length bytes / 4) (length numbers)

-- the numbers once the bytes are read into them; what there are no bytes for stays (rules 2.1 and 9.2)
unfoldable pub numbers_read : List ℕ → List ℕ → List ℕ
numbers_read bytes numbers = numbers_over (λ (k : ℕ). four_bytes_at bytes (4 * k)) (read_count bytes numbers) numbers

-- the eight bytes of a 64-bit number, the lowest first (rules 2.1 and 9.2)
unfoldable pub eight_bytes : ℕ → List ℕ
eight_bytes v =
    v % 2 ^ 8
    ∷ v / 2 ^ 8 % 2 ^ 8
    ∷ v / 2 ^ 16 % 2 ^ 8
    ∷ v / 2 ^ 24 % 2 ^ 8
    ∷ v / 2 ^ 32 % 2 ^ 8
    ∷ v / 2 ^ 40 % 2 ^ 8
    ∷ v / 2 ^ 48 % 2 ^ 8
    ∷ v / 2 ^ 56 % 2 ^ 8
    ∷ []

-- the bytes of the first k numbers
abbrev pub bytes_to : List ℕ → ℕ → List ℕ
bytes_to numbers = rows_to (λ (k : ℕ). eight_bytes (get_or numbers k 0))

-- some bytes with those of n numbers at their front, the rest as it was
abbrev pub bytes_over : List ℕ → ℕ → List ℕ → List ℕ
bytes_over numbers n bytes = rows_over 8 (λ (k : ℕ). eight_bytes (get_or numbers k 0)) n bytes

-- how many numbers are written: as many as there are and have room for all their eight bytes
abbrev pub written_count : List ℕ → List ℕ → ℕ
written_count numbers bytes = min (length numbers) (length bytes / 8)

-- rule 9.4: the bytes once the numbers are written to them; those over are left
unfoldable pub bytes_written : List ℕ → List ℕ → List ℕ
bytes_written numbers bytes = bytes_over numbers (written_count numbers bytes) bytes
