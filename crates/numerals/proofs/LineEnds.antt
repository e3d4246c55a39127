-- Some lines have as many line ends as they are, where no key and no field holds byte 10: each line has its own, which is its last byte, so
-- that a part of a line that is not the whole of it has none. Proved by recursion on the fields of a line and on the lines.
-- Assumes nothing.
use Prim.Native.Nat.{ℕ, ◌+◌, ◌≤◌}
use mathlib.Core.Bool.{cond}
use mathlib.Core.List.{List, [], ◌∷◌, ◌++◌, append_assoc, map}
use mathlib.Core.Path.{◌≡◌, refl, sym, ap, ◌∙◌}
use native.Mathlib.Omega.{arith}
use lib.Dec.{eqb}
use lib.ListN.{length, take, drop, length-append, take-append-drop}
use lib.Seq.{take-append-le, take_at}
use borrow.Author.Tests.{ne_eqb}
use Rattle.laws.proofs.Every.{Every, all, map_of}
use Rattle.numerals.specs.Decimal.{decimal}
use Rattle.numerals.specs.Lines.{Line, field_bytes, line_bytes, bytes_of_lines}
use Rattle.numerals.specs.Words.{comma, line_end}
use Rattle.numerals.proofs.DecimalLaws.{DigitByte, decimal_digits}
use Rattle.numerals.proofs.LineLaws.{fields_last, fields_more, number_line, line_is, lines_none, lines_more}

-- how many line ends are among some bytes
abbrev pub ends : List ℕ → ℕ
ends [] = 0
ends (b ∷ bytes) = cond (eqb b line_end) 1 0 + ends bytes

pub ends_append : (xs ys : List ℕ) → ends (xs ++ ys) ≡ ends xs + ends ys
ends_append [] ys = omega arith
ends_append (x ∷ xs) ys = omega (arith, ends_append xs ys)

-- none is among digits
digits_none : (bytes : List ℕ) → Every DigitByte bytes → ends bytes ≡ 0
digits_none [] h = refl
digits_none (b ∷ bytes) h = rw (ne_eqb b line_end (λ e. omega arith)) (omega (arith, digits_none bytes h.1))

abbrev NoLineEnd : List ℕ → Type 0
NoLineEnd bytes = ends bytes ≡ 0

-- bytes of which the last, and no other, ends a line
record Ended (bytes : List ℕ) : Type 0 where
  before : List ℕ
  none : NoLineEnd before
  is : bytes ≡ before ++ (line_end ∷ [])

-- they are so behind bytes without a line end
behind : (xs ys : List ℕ) → NoLineEnd xs → Ended ys → Ended (xs ++ ys)
behind xs ys z e = record {
  before = xs ++ e.before;
  none = omega (arith, ends_append xs e.before, e.none);
  is = ap (λ (l : List ℕ). xs ++ l) e.is ∙ sym (append_assoc xs e.before (line_end ∷ []));
}

fields_ended : (f : List ℕ) (fs : List (List ℕ)) → Every NoLineEnd (f ∷ fs) → Ended (field_bytes (f ∷ fs))
fields_ended f [] h = record { before = f; none = h.0; is = fields_last f }
fields_ended f (g ∷ fs) h =
    let rest = behind (comma ∷ []) (field_bytes (g ∷ fs)) refl (fields_ended g fs h.1) in
    rw (fields_more f g fs) (behind f (comma ∷ field_bytes (g ∷ fs)) h.0 rest)

-- a line of which no key and no field has a line end, and that has a field
pub record EndsOnce (x : Line) : Type 0 where
  pub key : NoLineEnd x.key
  pub fields : Every NoLineEnd x.fields
  pub some : 1 ≤ length x.fields

-- as a line of numbers
pub numbers_end_once : (key ns : List ℕ) → ends key ≡ 0 → 1 ≤ length (map decimal ns) → EndsOnce (number_line key ns)
numbers_end_once key ns none some = record {
  key = none;
  fields = map_of NoLineEnd decimal ns (all (λ (n : ℕ). ends (decimal n) ≡ 0) (λ n. digits_none (decimal n) (decimal_digits n)) ns);
  some = some;
}

some_ended : (fs : List (List ℕ)) → Every NoLineEnd fs → 1 ≤ length fs → Ended (field_bytes fs)
some_ended [] h k = absurd (omega arith)
some_ended (f ∷ fs) h k = fields_ended f fs h

line_ended : (x : Line) → EndsOnce x → Ended (line_bytes x)
line_ended x h = rw (line_is x) (behind x.key (field_bytes x.fields) h.key (some_ended x.fields h.fields h.some))

-- each of some lines has its one line end
pub lines_ends : (xs : List Line) → Every EndsOnce xs → ends (bytes_of_lines xs) ≡ length xs
lines_ends [] h = ap ends lines_none
lines_ends (x ∷ xs) h =
    let l = line_ended x h.0 in
    omega (
      arith,
      ap ends (lines_more x xs),
      ends_append (line_bytes x) (bytes_of_lines xs),
      ap ends l.is,
      ends_append l.before (line_end ∷ []),
      l.none,
      lines_ends xs h.1,
    )

-- and a part of a line that is not the whole of it has none
pub part_none : (x : Line) (part rest : List ℕ) → EndsOnce x → line_bytes x ≡ part ++ rest → 1 ≤ length rest → ends part ≡ 0
part_none x part rest h e some =
    let l = line_ended x h in
    let n = length part in
    let same : part ++ rest ≡ l.before ++ (line_end ∷ []) = sym e ∙ l.is in
    let short : n ≤ length l.before
    = omega (arith, ap length same, length-append part rest, length-append l.before (line_end ∷ [])) in
    let front : part ≡ take n l.before
    = sym (take_at part rest n refl) ∙ ap (take n) same ∙ take-append-le n l.before (line_end ∷ []) short in
    omega (
      arith,
      ap ends front,
      ap ends (take-append-drop n l.before),
      ends_append (take n l.before) (drop n l.before),
      l.none,
    )
