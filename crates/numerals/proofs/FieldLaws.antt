-- Laws of what stands at a position of a text: one for each way out of the loops that read numbers and words, and one for each turn.
-- Assumes nothing.
use Prim.Native.Nat.{ℕ, ◌+◌, ◌-◌, ◌≤◌, ◌<◌}
use mathlib.Core.Bool.{Bool, true, false, cond, ◌&&◌}
use mathlib.Core.List.{List, [], ◌∷◌}
use mathlib.Core.Path.{◌≡◌, refl, sym}
use lib.Dec.{eqb}
use native.Mathlib.Numerals.{add-one}
use native.Mathlib.Omega.{arith}
use lib.ListN.{length, drop, get_or, drop_of_length-le}
use lib.Seq.{drop-cons}
use borrow.Author.Tests.{lt-ltb, le-ltb, eq-eqb, ne_eqb, eqb-true, eqb-false}
use Rattle.std.specs.Char.{is_ascii_digit}
use Rattle.std.specs.List.{starts_with}
use Rattle.std.specs.Prelude.{Some, None}
use Rattle.numerals.specs.Decimal.{is_digit, with_digit}
use Rattle.numerals.specs.Fields.{largest, end_from, digits_from, field_from, field_at, word_at, word_from, field}

pub digits_end : (s : List ℕ) (i v : ℕ) → length s ≤ i → digits_from (drop i s) i v ≡ None
unfolding digits_from
digits_end s i v h = rw (drop_of_length-le s h)

-- the byte at a position, and whether it is a digit
module _ (s : List ℕ) (i v b : ℕ) (h : i < length s) (at : get_or s i 0 ≡ b) where
  pub digits_stop : is_ascii_digit b ≡ false → digits_from (drop i s) i v ≡ Some (field v b (i + 1))
  unfolding digits_from end_from is_digit
  digits_stop d = rw (drop-cons s i 0 h, at, d)

  pub digits_big : is_ascii_digit b ≡ true → largest < with_digit v b → digits_from (drop i s) i v ≡ None
  unfolding digits_from is_digit
  digits_big d big = rw (drop-cons s i 0 h, at, d, lt-ltb largest (with_digit v b) big)

  pub digits_more : is_ascii_digit b ≡ true → with_digit v b ≤ largest
      → digits_from (drop i s) i v ≡ digits_from (drop (i + 1) s) (i + 1) (with_digit v b)
  unfolding digits_from is_digit
  digits_more d small = rw (drop-cons s i 0 h, at, d, le-ltb largest (with_digit v b) small, add-one i)

pub ruleset digits_laws = (digits_end, digits_stop, digits_big, digits_more)

-- a number
pub field_end : (s : List ℕ) (i : ℕ) → length s ≤ i → field_at s i ≡ None
unfolding field_at field_from
field_end s i h = rw (drop_of_length-le s h)

module _ (s : List ℕ) (i b : ℕ) (h : i < length s) (at : get_or s i 0 ≡ b) where
  pub field_none : is_ascii_digit b ≡ false → field_at s i ≡ None
  unfolding field_at field_from is_digit
  field_none d = rw (drop-cons s i 0 h, at, d)

  module _ (d : is_ascii_digit b ≡ true) where
    pub field_more : (b ≡ 48 → ⊥) → field_at s i ≡ digits_from (drop (i + 1) s) (i + 1) (b - 48)
    unfolding field_at field_from is_digit
    field_more z = rw (drop-cons s i 0 h, at, d, ne_eqb b 48 z, add-one i)

    pub zero_end : b ≡ 48 → length s ≤ i + 1 → field_at s i ≡ None
    unfolding field_at field_from end_from is_digit
    zero_end z e = rw (drop-cons s i 0 h, at, d, eq-eqb b 48 z, ← add-one i, drop_of_length-le s e)

    pub zero_is : (c : ℕ) → b ≡ 48 → i + 1 < length s → get_or s (i + 1) 0 ≡ c → field_at s i ≡ Some (field 0 c (i + 1 + 1))
    unfolding field_at field_from end_from is_digit
    zero_is c z e n = rw (drop-cons s i 0 h, at, d, eq-eqb b 48 z, ← add-one i, drop-cons s (i + 1) 0 e, n)

pub ruleset field_laws = (field_end, field_none, field_more, zero_end, zero_is)

-- a word stands at the front of some bytes if the library's test finds it there
word_test : (word l : List ℕ) (p : ℕ) → word_from l p word ≡ cond (starts_with eqb l word) (Some (p + length word)) None
unfolding word_from
word_test [] [] p = let z : p + 0 ≡ p = omega arith in rw z
word_test [] (b ∷ l) p = let z : p + 0 ≡ p = omega arith in rw z
word_test (k ∷ word) [] p = refl
word_test (k ∷ word) (b ∷ l) p = by (eqb b k) refl (word_test word l (p + 1))
  where
    by : (t : Bool) → eqb b k ≡ t → word_from l (p + 1) word ≡ cond (starts_with eqb l word) (Some (p + 1 + length word)) None
        → cond t (word_from l (p + 1) word) None ≡ cond (eqb k b && starts_with eqb l word) (Some (p + length (k ∷ word))) None
    by true e h =
        let z : p + 1 + length word ≡ p + length (k ∷ word) = omega arith in
        rw (eq-eqb k b (sym (eqb-true b k e)), ← z) h
    by false e h = rw (ne_eqb k b (λ x. eqb-false b k e (sym x)))

pub word_found : (s : List ℕ) (at : ℕ) (word : List ℕ) → word_at s at word ≡ cond (starts_with eqb (drop at s) word) (Some (at + length word)) None
unfolding word_at
word_found s at word = word_test word (drop at s) at
