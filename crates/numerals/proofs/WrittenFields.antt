-- What is read as a number, a word or a line of a key and a number is written so, and the number is at most 4294967294: by recursion on the
-- bytes, each branch of a test that was passed telling the next byte.
-- Assumes nothing.
use Prim.Native.Nat.{ℕ, ◌+◌, ◌-◌, ◌<◌}
use mathlib.Core.List.{List, [], ◌∷◌, ◌++◌, append_assoc, append-nil}
use mathlib.Core.Logic.{⊎_elim}
use mathlib.Core.Path.{◌≡◌, refl, sym, ap, ◌∙◌}
use native.Mathlib.Nat.{eq-zero-or-pos}
use native.Mathlib.Omega.{arith}
use lib.Dec.{ltb, eqb}
use lib.ListN.{length, drop, length-append}
use borrow.Author.Tests.{ltb-false, eqb-true, eqb-false}
use Rattle.std.proofs.lemmas.Option.{same_Some}
use Rattle.std.specs.Prelude.{Some, None}
use Rattle.numerals.specs.Decimal.{digit_byte, is_digit, with_digit, decimal}
use Rattle.numerals.specs.Fields.{largest, Small, end_from, digits_from, field_from, field_at, word_from, word_at, keyed_at, field, number}
use Rattle.numerals.specs.Lines.{line_bytes}
use Rattle.numerals.specs.Words.{line_end}
use Rattle.numerals.proofs.DecimalLaws.{digit_range, decimal_one, decimal_next}
use Rattle.numerals.proofs.Here.{Here, here_then}
use Rattle.numerals.proofs.LineLaws.{key_line, line_one}
use Rattle.numerals.proofs.Ways.{either, first, second, no_field, no_number, no_step, field_parts, number_parts, after_field_lem, after_step_lem}

-- digits taken from the front of some bytes after digits worth v, all together worth n, and the byte c that ends them
record Taken (l : List ℕ) (p v n c q : ℕ) : Type 0 where
  taken : List ℕ
  rest : List ℕ
  split : l ≡ taken ++ (c ∷ rest)
  digits : decimal n ≡ decimal v ++ taken
  ends : q ≡ p + length taken + 1
  small : Small n

none_taken : (b : ℕ) (l : List ℕ) (p v n c q : ℕ) → Small v → end_from (b ∷ l) p v ≡ Some (field n c q) → Taken (b ∷ l) p v n c q
unfolding end_from
none_taken b l p v n c q k e =
    let same = field_parts e in
    record {
      taken = [];
      rest = l;
      split = rw same.1;
      digits = ap decimal (sym same.0) ∙ sym (append-nil (decimal v));
      ends = omega (arith, same.2);
      small = omega (arith, same.0);
    }

zero_taken : (l : List ℕ) (p n c q : ℕ) → end_from l p 0 ≡ Some (field n c q) → Taken l p 0 n c q
unfolding end_from
zero_taken [] p n c q e = absurd (no_field n c q e)
zero_taken (b ∷ l) p n c q e = none_taken b l p 0 n c q (omega arith) e

digits_taken : (l : List ℕ) (p v n c q : ℕ) → 0 < v → Small v → digits_from l p v ≡ Some (field n c q) → Taken l p v n c q
unfolding digits_from
digits_taken [] p v n c q h k e = absurd (no_field n c q e)
digits_taken (b ∷ l) p v n c q h k e =
    either (is_digit b) _ (end_from (b ∷ l) p v) e
    (λ t x.
    let w = with_digit v b in
    let g = digit_range b t in
    let fits = second (ltb largest w) None _ (no_field n c q) x in
    let r = digits_taken l (p + 1) w n c q (omega arith) (ltb-false largest w fits.0) fits.1 in
    let byte : b ≡ digit_byte (b - 48) = omega arith in
    record {
      taken = b ∷ r.taken;
      rest = r.rest;
      split = ap (λ (m : List ℕ). b ∷ m) r.split;
      digits =
          r.digits
          ∙ ap (λ (m : List ℕ). m ++ r.taken) (decimal_next v (b - 48) h (omega arith))
          ∙ append_assoc (decimal v) (digit_byte (b - 48) ∷ []) r.taken
          ∙ ap (λ (x : ℕ). decimal v ++ (x ∷ r.taken)) (sym byte);
      ends = omega (arith, r.ends);
      small = r.small;
    })
    (λ t x. none_taken b l p v n c q k x)

-- what is read as the number n and the byte c is the digits of n and that byte, and n is at most 4294967294
pub record FieldWritten (s : List ℕ) (at n c q : ℕ) : Type 0 where
  pub here : Here s at (decimal n ++ (c ∷ [])) q
  pub small : Small n

module _ (s : List ℕ) (at n c q : ℕ) where
  first_taken : (b : ℕ) (l : List ℕ) (v : ℕ) → drop at s ≡ b ∷ l → decimal v ≡ b ∷ [] → Taken l (at + 1) v n c q → FieldWritten s at n c q
  first_taken b l v o d r =
      let w : decimal n ≡ b ∷ r.taken = r.digits ∙ ap (λ (m : List ℕ). m ++ r.taken) d in
      let split : drop at s ≡ decimal n ++ (c ∷ r.rest) = o ∙ ap (λ (m : List ℕ). b ∷ m) r.split ∙ rw w in
      record {
        here =
            record {
              rest = r.rest;
              split = split ∙ sym (append_assoc (decimal n) (c ∷ []) r.rest);
              ends = omega (arith, ap length w, r.ends, length-append (decimal n) (c ∷ []));
            };
        small = r.small;
      }

  field_from_lem : (l : List ℕ) → drop at s ≡ l → field_from l at ≡ Some (field n c q) → FieldWritten s at n c q
  unfolding field_from
  field_from_lem [] o e = absurd (no_field n c q e)
  field_from_lem (b ∷ l) o e =
      let digit = first (is_digit b) _ None (no_field n c q) e in
      let g = digit_range b digit.0 in
      let byte : b ≡ digit_byte (b - 48) = omega arith in
      let one : decimal (b - 48) ≡ b ∷ [] = decimal_one (b - 48) (omega arith) ∙ ap (λ (x : ℕ). x ∷ []) (sym byte) in
      either (eqb b 48) _ _ digit.1
      (λ t x.
      let none : b - 48 ≡ 0 = omega (arith, eqb-true b 48 t) in
      first_taken b l 0 o (rw none at one) (zero_taken l (at + 1) n c q x))
      (λ t x.
      let above : 0 < b - 48 = ⊎_elim (λ (z : b - 48 ≡ 0). absurd (eqb-false b 48 t (omega arith))) (λ z. z) (eq-zero-or-pos (b - 48)) in
      first_taken b l (b - 48) o one (digits_taken l (at + 1) (b - 48) n c q above (omega arith) x))

  pub field_written : field_at s at ≡ Some (field n c q) → FieldWritten s at n c q
  unfolding field_at
  field_written e = field_from_lem (drop at s) refl e

-- what is read as a word is that word
word_from_lem : (word l : List ℕ) (p q : ℕ) → word_from l p word ≡ Some q → (l ≡ word ++ drop (length word) l) × (q ≡ p + length word)
unfolding word_from
word_from_lem [] [] p q e = (refl, omega (arith, same_Some _ _ e))
word_from_lem [] (b ∷ l) p q e = (refl, omega (arith, same_Some _ _ e))
word_from_lem (k ∷ word) [] p q e = absurd (no_step q e)
word_from_lem (k ∷ word) (b ∷ l) p q e =
    let same = first (eqb b k) (word_from l (p + 1) word) None (no_step q) e in
    let r = word_from_lem word l (p + 1) q same.1 in
    (rw (eqb-true b k same.0) (ap (λ (m : List ℕ). k ∷ m) r.0), omega arith)

pub word_written : (s : List ℕ) (at : ℕ) (word : List ℕ) (q : ℕ) → word_at s at word ≡ Some q → Here s at word q
unfolding word_at
word_written s at word q e =
    let r = word_from_lem word (drop at s) at q e in
    record { rest = drop (length word) (drop at s); split = r.0; ends = r.1 }

-- what is read as a key and a number is a line of these
pub record KeyedWritten (s : List ℕ) (at : ℕ) (key : List ℕ) (n q : ℕ) : Type 0 where
  pub here : Here s at (line_bytes (key_line key n)) q
  pub small : Small n

pub keyed_written : (s : List ℕ) (at : ℕ) (key : List ℕ) (n q : ℕ) → keyed_at s at key ≡ Some (number n q) → KeyedWritten s at key n q
unfolding keyed_at
keyed_written s at key n q e =
    after_step_lem None (no_number n q) (word_at s at key) _ e
    (λ p to on. after_field_lem None (no_number n q) line_end (field_at s p) _ on
    (λ v r is same.
    let w = field_written s p n line_end q (is ∙ rw ((number_parts same).0, (number_parts same).1)) in
    record { here = rw line_one (here_then (word_written s at key p to) w.here); small = w.small }))
