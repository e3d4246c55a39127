-- Every printed number reads back as itself: the numbers that stand in the bytes of some lines are the numbers of the lines, in their order,
-- where no key holds a digit, a comma or byte 10, as none of letters and `=` does, and no field a comma or byte 10, as no number does.
-- Proved byte by byte, and for a number by recursion on a bound of it.
-- Assumes nothing.
use Prim.Native.Nat.{ℕ, zero, suc, ◌+◌, ◌-◌, ◌*◌, ◌/◌, ◌%◌, ◌≤◌, ◌<◌}
use Prim.Native.String.{String}
use mathlib.Core.Bool.{Bool, true, false, ◌&&◌}
use mathlib.Core.List.{List, [], ◌∷◌, ◌++◌, append_assoc, append-nil, map}
use mathlib.Core.Logic.{⊎_elim}
use mathlib.Core.Path.{◌≡◌, refl, sym, ap, ◌∙◌}
use native.Mathlib.Omega.{arith}
use lib.Dec.{ltb, eqb}
use borrow.Author.Tests.{ltb-true, le-leb, lt-leb, ne_eqb}
use Rattle.laws.proofs.Every.{Every, all, imply, map_of}
use Rattle.laws.proofs.Guards.{both, no_fault}
use Rattle.laws.proofs.Order.{either_order}
use Rattle.numerals.specs.Decimal.{digit_byte, is_digit, decimal}
use Rattle.numerals.specs.Lines.{Line, line, field_bytes, line_bytes, bytes_of_lines}
use Rattle.numerals.specs.Numbers.{ends_number, read_on, number_ended, numbers_from, numbers_in, worth_from, numbers_of, numbers_of_lines}
use Rattle.numerals.specs.Words.{bytes_of, comma, line_end}
use Rattle.numerals.proofs.DecimalLaws.{DigitByte, digit_is, decimal_one, decimal_more, decimal_digits}

-- a byte that ends no number, and one of a key, which can be taken for none of a number
abbrev NoEnd : ℕ → Type 0
NoEnd b = ends_number b ≡ false

abbrev OfKey : ℕ → Type 0
OfKey b = (is_digit b ≡ false) × NoEnd b

-- a line whose numbers can be told from its bytes
pub record Plain (x : Line) : Type 0 where
  pub key : Every OfKey x.key
  pub fields : Every (λ (f : List ℕ). Every NoEnd f) x.fields

-- bytes of a field, the byte that ends it, and bytes of a key
field_read : (v : ℕ) (f : List ℕ) (end : ℕ) (l : List ℕ) → Every NoEnd f → is_digit end ≡ false → ends_number end ≡ true
    → numbers_from v (f ++ (end ∷ l)) ≡ worth_from v f ∷ numbers_in l
unfolding numbers_from number_ended read_on worth_from
field_read v [] end l p d e = rw (d, e)
field_read v (b ∷ f) end l p d e = rw p.0 (field_read (read_on v b) f end l p.1 d e)

key_read : (key l : List ℕ) → Every OfKey key → numbers_in (key ++ l) ≡ numbers_in l
unfolding numbers_from number_ended read_on
key_read [] l p = refl
key_read (b ∷ key) l p = rw (p.0.1, p.0.0) (key_read key l p.1)

fields_read : (fs : List (List ℕ)) (l : List ℕ) → Every (λ (f : List ℕ). Every NoEnd f) fs
    → numbers_in (field_bytes fs ++ l) ≡ map (worth_from 0) fs ++ numbers_in l
unfolding field_bytes is_digit ends_number
fields_read [] l p = refl
fields_read (f ∷ []) l p = rw (append_assoc f (line_end ∷ []) l) (field_read 0 f line_end l p.0 refl refl)
fields_read (f ∷ g ∷ fs) l p =
    rw (append_assoc f (comma ∷ field_bytes (g ∷ fs)) l)
    (field_read 0 f comma (field_bytes (g ∷ fs) ++ l) p.0 refl refl
    ∙ ap (λ (r : List ℕ). worth_from 0 f ∷ r) (fields_read (g ∷ fs) l p.1))

pub read_back : (xs : List Line) → Every Plain xs → numbers_in (bytes_of_lines xs) ≡ numbers_of_lines xs
unfolding bytes_of_lines line_bytes numbers_of_lines numbers_from
read_back [] p = refl
read_back (x ∷ xs) p =
    let rest = bytes_of_lines xs in
    rw (append_assoc x.key (field_bytes x.fields) rest)
    (key_read x.key (field_bytes x.fields ++ rest) p.0.key
    ∙ fields_read x.fields rest p.0.fields
    ∙ ap (λ (r : List ℕ). numbers_of x ++ r) (read_back xs p.1))

-- whether all bytes of a key lie above those of the digits, as letters and `=` do: then a line of numbers with that key is plain, since a
-- comma and byte 10 lie below
abbrev pub above_digits : List ℕ → Bool
above_digits [] = true
above_digits (b ∷ key) = ltb 57 b && above_digits key

key_plain : (key : List ℕ) → above_digits key ≡ true → Every OfKey key
unfolding is_digit ends_number
key_plain [] h = tt
key_plain (b ∷ key) h =
    let e = both (ltb 57 b) (above_digits key) h in
    let a : 57 < b = ltb-true 57 b e.0 in
    ((rw (lt-leb b 57 a, le-leb 48 b (omega arith)), rw (ne_eqb b 44 (λ x. omega arith), ne_eqb b 10 (λ x. omega arith))), key_plain key e.1)

digit_plain : (b : ℕ) → DigitByte b → NoEnd b
unfolding ends_number
digit_plain b d = no_fault (eqb b comma) (eqb b line_end) (ne_eqb b comma (λ e. omega arith)) (ne_eqb b line_end (λ e. omega arith))

number_plain : (n : ℕ) → Every NoEnd (decimal n)
number_plain n = imply DigitByte NoEnd digit_plain (decimal n) (decimal_digits n)

pub plain_line : (key : String) (ns : List ℕ) → above_digits (bytes_of key) ≡ true → Plain (line key ns)
plain_line key ns h = record {
  key = key_plain (bytes_of key) h;
  fields = map_of (λ (f : List ℕ). Every NoEnd f) decimal ns (all (λ (n : ℕ). Every NoEnd (decimal n)) number_plain ns);
}

-- the digits of a number are worth it, by recursion on a bound of it
worth_append : (v : ℕ) (f g : List ℕ) → worth_from v (f ++ g) ≡ worth_from (worth_from v f) g
unfolding worth_from
worth_append v [] g = refl
worth_append v (b ∷ f) g = worth_append (read_on v b) f g

worth_digit : (v d : ℕ) → d < 10 → worth_from v (digit_byte d ∷ []) ≡ v * 10 + d
unfolding worth_from read_on
worth_digit v d h =
    let e : 48 + d - 48 ≡ d = omega arith in
    rw (digit_is (48 + d) (record { low = omega arith; high = omega arith }), e)

worth_number : (f n : ℕ) → n < f → worth_from 0 (decimal n) ≡ n
worth_number zero n h = absurd (omega arith)
worth_number (suc f) n h =
    ⊎_elim
    (λ (a : n < 10). let e : 0 * 10 + n ≡ n = omega arith in rw (decimal_one n a) (worth_digit 0 n a ∙ e))
    (λ (a : 10 ≤ n). let e : n / 10 * 10 + n % 10 ≡ n = omega arith in
    rw (decimal_more n a)
    (worth_append 0 (decimal (n / 10)) (digit_byte (n % 10) ∷ [])
    ∙ rw (worth_number f (n / 10) (omega arith)) (worth_digit (n / 10) (n % 10) (omega arith) ∙ e)))
    (either_order n 10)

-- the numbers of a line of numbers are those; of no line, of one line, of one line more, and of lines in two parts
pub number_back_lem : (n : ℕ) → worth_from 0 (decimal n) ≡ n
number_back_lem n = worth_number (suc n) n (omega arith)

pub numbers_back : (ns : List ℕ) → map (worth_from 0) (map decimal ns) ≡ ns
numbers_back [] = refl
numbers_back (n ∷ ns) = rw (number_back_lem n, numbers_back ns)

pub numbers_none : numbers_of_lines [] ≡ []
unfolding numbers_of_lines
numbers_none = refl

pub numbers_more : (x : Line) (xs : List Line) → numbers_of_lines (x ∷ xs) ≡ numbers_of x ++ numbers_of_lines xs
unfolding numbers_of_lines
numbers_more x xs = refl

pub numbers_one : (x : Line) → numbers_of_lines (x ∷ []) ≡ numbers_of x
unfolding numbers_of_lines
numbers_one x = append-nil (numbers_of x)

pub numbers_append : (xs ys : List Line) → numbers_of_lines (xs ++ ys) ≡ numbers_of_lines xs ++ numbers_of_lines ys
unfolding numbers_of_lines
numbers_append [] ys = refl
numbers_append (x ∷ xs) ys =
    ap (λ (r : List ℕ). numbers_of x ++ r) (numbers_append xs ys) ∙ sym (append_assoc (numbers_of x) (numbers_of_lines xs) (numbers_of_lines ys))
