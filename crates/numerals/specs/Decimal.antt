-- A number as the bytes of its decimal digits: rule 8.2.
-- Assumes nothing.
use Rattle.std.specs.Prelude.{ℕ, zero, suc, ◌+◌, ◌-◌, ◌*◌, ◌/◌, ◌%◌, Bool, cond, ◌&&◌, List, [], ◌∷◌, ◌++◌, ltb, leb}

-- the byte of a digit
abbrev pub digit_byte : ℕ → ℕ
digit_byte d = 48 + d

-- the bytes of the digits 0 to 9
unfoldable pub is_digit : ℕ → Bool
is_digit b = leb 48 b && leb b 57

-- a number with one digit more, by the digit's byte
abbrev pub with_digit : ℕ → ℕ → ℕ
with_digit v b = v * 10 + (b - 48)

-- the digits of n, which has at most `most` of them
unfoldable pub digits_in : ℕ → ℕ → List ℕ
digits_in zero n = []
digits_in (suc most) n = cond (ltb n 10) (digit_byte n ∷ []) (digits_in most (n / 10) ++ (digit_byte (n % 10) ∷ []))

-- the decimal digits of n, the most significant first; n has no more than n + 1 of them (rule 8.2)
unfoldable pub decimal : ℕ → List ℕ
decimal n = digits_in (suc n) n
