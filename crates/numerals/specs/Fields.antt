-- Numbers and words at a position of a text: rules 8.1 and 8.2.
-- Assumes nothing.
use Rattle.std.specs.Prelude.{ℕ, ◌+◌, ◌-◌, ◌≤◌, cond, List, [], ◌∷◌, ltb, eqb, drop, Option, Some, None}
use Rattle.numerals.specs.Decimal.{digit_byte, is_digit, with_digit}
use Rattle.numerals.specs.Words.{line_end}
use Rattle.numerals.specs.declared.fields.Field.{Field}
use Rattle.numerals.specs.declared.fields.Number.{Number}

abbrev pub largest : ℕ
largest = 4294967294

-- a number that can be written (rule 8.2)
abbrev pub Small : ℕ → Type 0
Small n = n ≤ largest

-- a number v, the byte b that ends it and the position p after that byte; and a number and the position after its line
abbrev pub field : ℕ → ℕ → ℕ → Field
field v b p = record { value = v; end = b; next = p }

abbrev pub number : ℕ → ℕ → Number
number v p = record { value = v; next = p }

-- the number v, ended by the byte at the front of some bytes, which stands at position p
unfoldable pub end_from : List ℕ → ℕ → ℕ → Option Field
end_from [] p v = None
end_from (b ∷ l) p v = Some (field v b (p + 1))

-- the digits at the front of some bytes, of which the first stands at position p, after digits worth v
unfoldable pub digits_from : List ℕ → ℕ → ℕ → Option Field
digits_from [] p v = None
digits_from (b ∷ l) p v =
    cond (is_digit b) (cond (ltb largest (with_digit v b)) None (digits_from l (p + 1) (with_digit v b))) (end_from (b ∷ l) p v)

-- a number and the byte that ends it: 0 alone, or a digit from 1 on and the digits after it (rule 8.2)
unfoldable pub field_from : List ℕ → ℕ → Option Field
field_from [] p = None
field_from (b ∷ l) p =
    cond (is_digit b) (cond (eqb b (digit_byte 0)) (end_from l (p + 1) 0) (digits_from l (p + 1) (b - 48))) None

unfoldable pub field_at : List ℕ → ℕ → Option Field
field_at s at = field_from (drop at s) at

-- past the bytes of a word, where they stand
unfoldable pub word_from : List ℕ → ℕ → List ℕ → Option ℕ
word_from l p [] = Some p
word_from [] p (k ∷ word) = None
word_from (b ∷ l) p (k ∷ word) = cond (eqb b k) (word_from l (p + 1) word) None

unfoldable pub word_at : List ℕ → ℕ → List ℕ → Option ℕ
word_at s at word = word_from (drop at s) at word

-- go on after a number that a certain byte ends, after any number, or after a step; what is broken gives the answer that stands first
abbrev pub after_field : {A : Type 0} → A → ℕ → Option Field → (ℕ → ℕ → A) → A
after_field broken end (Some f) go = cond (eqb f.end end) (go f.value f.next) broken
after_field broken end None go = broken

abbrev pub after_number : {A : Type 0} → A → Option Number → (ℕ → ℕ → A) → A
after_number broken (Some n) go = go n.value n.next
after_number broken None go = broken

abbrev pub after_step : {A : Type 0} → A → Option ℕ → (ℕ → A) → A
after_step broken (Some p) go = go p
after_step broken None go = broken

-- the number of a line that has a key and one number (rule 8.1)
unfoldable pub keyed_at : List ℕ → ℕ → List ℕ → Option Number
keyed_at s at key = after_step None (word_at s at key) (λ p. after_field None line_end (field_at s p) (λ v q. Some (number v q)))
