-- What is written reads back: a number before a byte that is no digit, a word, a line of a key and one number, and the numbers of a line.
-- Proved from what stands in the text from a position on: some bytes, and a rest.
-- Assumes nothing.
use Prim.Native.Nat.{ℕ, zero, suc, ◌+◌, ◌-◌, ◌*◌, ◌/◌, ◌%◌, ◌≤◌, ◌<◌}
use mathlib.Core.Bool.{false}
use mathlib.Core.List.{List, [], ◌∷◌, ◌++◌, append_assoc, map}
use mathlib.Core.Logic.{⊎_elim}
use mathlib.Core.Path.{◌≡◌, refl, sym, ap, ◌∙◌}
use native.Mathlib.Nat.{eq-zero-or-pos}
use native.Mathlib.Omega.{arith}
use lib.ListN.{length, drop, length-append}
use borrow.Author.Tests.{le-ltb, eq-eqb, ne_eqb}
use Rattle.std.specs.Prelude.{Some}
use Rattle.laws.proofs.Every.{Every}
use Rattle.laws.proofs.Order.{either_order}
use Rattle.numerals.specs.Decimal.{digit_byte, is_digit, decimal}
use Rattle.numerals.specs.Fields.{largest, Small, end_from, digits_from, field_from, field_at, word_from, word_at, keyed_at, field, number}
use Rattle.numerals.specs.Lines.{line_bytes}
use Rattle.numerals.specs.Rows.{row_at}
use Rattle.numerals.specs.Words.{comma, line_end}
use Rattle.numerals.proofs.DecimalLaws.{digit_is, decimal_one, decimal_more, length_more, Lead, lead}
use Rattle.numerals.proofs.Here.{past}
use Rattle.numerals.proofs.LineLaws.{fields_last, fields_more, key_line, number_bytes, line_one}

-- one digit more
digit_reads : (d : ℕ) (l : List ℕ) (p v : ℕ) → d < 10 → Small (v * 10 + d) → digits_from (digit_byte d ∷ l) p v ≡ digits_from l (p + 1) (v * 10 + d)
unfolding digits_from
digit_reads d l p v h k =
    let e : 48 + d - 48 ≡ d = omega arith in
    rw (digit_is (48 + d) (record { low = omega arith; high = omega arith }), e, le-ltb largest (v * 10 + d) k)

-- the digits of n, read from nothing, are worth n; n is below f
digits_read : (f n : ℕ) (l : List ℕ) (p : ℕ) → n < f → Small n → digits_from (decimal n ++ l) p 0 ≡ digits_from l (p + length (decimal n)) n
digits_read zero n l p g k = absurd (omega arith)
digits_read (suc f) n l p g k =
    ⊎_elim
    (λ h. let z : 0 * 10 + n ≡ n = omega arith in
    let y : Small (0 * 10 + n) = omega arith in
    rw (decimal_one n h) (digit_reads n l p 0 h y ∙ ap (λ (x : ℕ). digits_from l (p + 1) x) z))
    (λ h. let e : n / 10 * 10 + n % 10 ≡ n = omega arith in
    let q : p + length (decimal (n / 10)) + 1 ≡ p + length (decimal n) = omega (arith, length_more n h) in
    ap (λ (x : List ℕ). digits_from (x ++ l) p 0) (decimal_more n h)
    ∙ ap (λ (x : List ℕ). digits_from x p 0) (append_assoc (decimal (n / 10)) (digit_byte (n % 10) ∷ []) l)
    ∙ digits_read f (n / 10) (digit_byte (n % 10) ∷ l) p (omega arith) (omega arith)
    ∙ digit_reads (n % 10) l (p + length (decimal (n / 10))) (n / 10) (omega arith) (omega arith)
    ∙ rw (e, q))
    (either_order n 10)

-- a number at the front of some bytes, before a byte c that is no digit
module _ (n c : ℕ) (l : List ℕ) (p : ℕ) (k : Small n) (ends : is_digit c ≡ false) where
  stops : (q v : ℕ) → digits_from (c ∷ l) q v ≡ Some (field v c (q + 1))
  unfolding digits_from end_from
  stops q v = rw ends

  -- 0 is the one digit
  reads_zero : n ≡ 0 → field_from (decimal n ++ (c ∷ l)) p ≡ Some (field n c (p + length (decimal n) + 1))
  unfolding field_from end_from
  reads_zero z = rw (z, decimal_one 0 (omega arith), digit_is 48 (record { low = omega arith; high = omega arith }))

  -- a number that starts with a digit above 0 is its digits
  by_digits : (d : ℕ) (t : List ℕ) → 0 < d → d < 10 → field_from (digit_byte d ∷ t) p ≡ digits_from (digit_byte d ∷ t) p 0
  unfolding field_from digits_from
  by_digits d t a b =
      let z : 0 * 10 + (48 + d - 48) ≡ 48 + d - 48 = omega arith in
      rw (
        digit_is (48 + d) (record { low = omega arith; high = omega arith }),
        ne_eqb (48 + d) 48 (λ e. omega arith),
        z,
        le-ltb largest (48 + d - 48) (omega arith),
      )

  reads_more : Lead n → field_from (decimal n ++ (c ∷ l)) p ≡ Some (field n c (p + length (decimal n) + 1))
  reads_more r =
      ap (λ (x : List ℕ). field_from (x ++ (c ∷ l)) p) r.is
      ∙ by_digits r.first (r.more ++ (c ∷ l)) r.above r.small
      ∙ ap (λ (x : List ℕ). digits_from (x ++ (c ∷ l)) p 0) (sym r.is)
      ∙ digits_read (suc n) n (c ∷ l) p (omega arith) k
      ∙ stops (p + length (decimal n)) n

  front_reads : field_from (decimal n ++ (c ∷ l)) p ≡ Some (field n c (p + length (decimal n) + 1))
  front_reads = ⊎_elim (λ z. reads_zero z) (λ z. reads_more (lead n z)) (eq-zero-or-pos n)

-- the number at a position and the byte that ends it, and what follows
pub record FieldReads (s r : List ℕ) (at n c : ℕ) : Type 0 where
  pub read : field_at s at ≡ Some (field n c (at + length (decimal n ++ (c ∷ []))))
  pub next : drop (at + length (decimal n ++ (c ∷ []))) s ≡ r

pub field_reads : (s r : List ℕ) (at n c : ℕ) → Small n → is_digit c ≡ false → drop at s ≡ decimal n ++ (c ∷ r) → FieldReads s r at n c
unfolding field_at
field_reads s r at n c k ends e =
    let z : at + length (decimal n) + 1 ≡ at + length (decimal n ++ (c ∷ [])) = omega (arith, length-append (decimal n) (c ∷ [])) in
    record {
      read = ap (λ (x : List ℕ). field_from x at) e ∙ front_reads n c r at k ends ∙ rw z;
      next = past s (decimal n ++ (c ∷ [])) r at (e ∙ sym (append_assoc (decimal n) (c ∷ []) r));
    }

-- a word
word_front : (word r : List ℕ) (p : ℕ) → word_from (word ++ r) p word ≡ Some (p + length word)
unfolding word_from
word_front [] [] p = let z : p + 0 ≡ p = omega arith in rw z
word_front [] (b ∷ r) p = let z : p + 0 ≡ p = omega arith in rw z
word_front (a ∷ word) r p =
    let z : p + 1 + length word ≡ p + suc (length word) = omega arith in
    rw (eq-eqb a a refl, ← z) (word_front word r (p + 1))

pub word_reads : (s r : List ℕ) (at : ℕ) (word : List ℕ) → drop at s ≡ word ++ r → word_at s at word ≡ Some (at + length word)
unfolding word_at
word_reads s r at word e = ap (λ (x : List ℕ). word_from x at word) e ∙ word_front word r at

-- the bytes that end a number are no digits
pub comma_ends : is_digit comma ≡ false
unfolding is_digit
comma_ends = refl

pub line_end_ends : is_digit line_end ≡ false
unfolding is_digit
line_end_ends = refl

-- a line of a key and one number
pub keyed_reads : (s key r : List ℕ) (at n : ℕ) → Small n → drop at s ≡ line_bytes (key_line key n) ++ r
    → keyed_at s at key ≡ Some (number n (at + length (line_bytes (key_line key n))))
unfolding keyed_at
keyed_reads s key r at n k e =
    let end = decimal n ++ (line_end ∷ []) in
    let e₁ : drop at s ≡ key ++ (decimal n ++ (line_end ∷ r)) = e ∙ simp (line_one, append_assoc) in
    let f = field_reads s r (at + length key) n line_end k line_end_ends (past s key (decimal n ++ (line_end ∷ r)) at e₁) in
    let z : at + length key + length end ≡ at + length (line_bytes (key_line key n)) = omega (arith, ap length (line_one key n), length-append key end) in
    rw (word_reads s (decimal n ++ (line_end ∷ r)) at key e₁, f.read, z)

-- the numbers of a line, at least one and at most `most`
pub row_reads : (s r : List ℕ) (at most : ℕ) (vs : List ℕ) → Every Small vs → 1 ≤ length vs → length vs ≤ most → drop at s ≡ number_bytes vs ++ r
    → row_at most s at ≡ record { said = vs; end = Some (at + length (number_bytes vs)) }
unfolding row_at
row_reads s r at most [] small some few e = absurd (omega arith)
row_reads s r at zero (v ∷ vs) small some few e = absurd (omega arith)
row_reads s r at (suc most) (v ∷ []) small some few e =
    let f = field_reads s r at v line_end small.0 line_end_ends (e ∙ rw (fields_last, append_assoc)) in
    rw (f.read, fields_last)
row_reads s r at (suc most) (v ∷ w ∷ ws) small some few e =
    let here = decimal v ++ (comma ∷ []) in
    let rest = number_bytes (w ∷ ws) in
    let f = field_reads s (rest ++ r) at v comma small.0 comma_ends (e ∙ rw (fields_more, append_assoc)) in
    let z : at + length here + length rest ≡ at + length (number_bytes (v ∷ w ∷ ws))
    = omega (
      arith,
      ap length (fields_more (decimal v) (decimal w) (map decimal ws)),
      length-append (decimal v) (comma ∷ rest),
      length-append (decimal v) (comma ∷ []),
    ) in
    rw (f.read, row_reads s r (at + length here) most (w ∷ ws) small.1 (omega arith) (omega arith) f.next, z)
