-- Lines as bytes: the fields of a line one by one, a line by its key and its fields, and lines one by one and in two parts.
-- Assumes nothing.
use Prim.Native.Nat.{ℕ}
use mathlib.Core.List.{List, [], ◌∷◌, ◌++◌, append_assoc, append-nil, map}
use mathlib.Core.Path.{◌≡◌, refl, sym, ap, ◌∙◌}
use Rattle.numerals.specs.Decimal.{decimal}
use Rattle.numerals.specs.Lines.{Line, field_bytes, line_bytes, bytes_of_lines}
use Rattle.numerals.specs.Words.{comma, line_end}

pub fields_last : (f : List ℕ) → field_bytes (f ∷ []) ≡ f ++ (line_end ∷ [])
unfolding field_bytes
fields_last f = refl

pub fields_more : (f g : List ℕ) (fs : List (List ℕ)) → field_bytes (f ∷ g ∷ fs) ≡ f ++ (comma ∷ field_bytes (g ∷ fs))
unfolding field_bytes
fields_more f g fs = refl

pub line_is : (x : Line) → line_bytes x ≡ x.key ++ field_bytes x.fields
unfolding line_bytes
line_is x = refl

-- a line of numbers, of one number, and the numbers of a line as bytes
abbrev pub number_line : List ℕ → List ℕ → Line
number_line key ns = record { key = key; fields = map decimal ns }

abbrev pub key_line : List ℕ → ℕ → Line
key_line key n = number_line key (n ∷ [])

abbrev pub number_bytes : List ℕ → List ℕ
number_bytes ns = field_bytes (map decimal ns)

pub line_one : (key : List ℕ) (n : ℕ) → line_bytes (key_line key n) ≡ key ++ (decimal n ++ (line_end ∷ []))
line_one key n = rw (line_is, fields_last)

pub lines_none : bytes_of_lines [] ≡ []
unfolding bytes_of_lines
lines_none = refl

pub lines_more : (x : Line) (xs : List Line) → bytes_of_lines (x ∷ xs) ≡ line_bytes x ++ bytes_of_lines xs
unfolding bytes_of_lines
lines_more x xs = refl

pub lines_one : (x : Line) → bytes_of_lines (x ∷ []) ≡ line_bytes x
unfolding bytes_of_lines
lines_one x = append-nil (line_bytes x)

pub lines_append : (xs ys : List Line) → bytes_of_lines (xs ++ ys) ≡ bytes_of_lines xs ++ bytes_of_lines ys
unfolding bytes_of_lines
lines_append [] ys = refl
lines_append (x ∷ xs) ys =
    ap (λ (l : List ℕ). line_bytes x ++ l) (lines_append xs ys) ∙ sym (append_assoc (line_bytes x) (bytes_of_lines xs) (bytes_of_lines ys))
