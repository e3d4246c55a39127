-- Laws of what is put: parts one after the other, digits, fields, keys, the numbers of a line and lines.
-- Assumes nothing.
use Prim.Native.Nat.{ℕ, ◌+◌, ◌-◌, ◌/◌, ◌%◌, ◌≤◌, ◌<◌}
use mathlib.Core.List.{List, [], ◌∷◌, ◌++◌, append_assoc}
use mathlib.Core.Path.{◌≡◌, refl, sym, ap, ◌∙◌}
use native.Mathlib.Omega.{arith}
use lib.ListN.{length, set, take, drop, length-append}
use lib.Seq.{length-sets, drop-drop}
use Rattle.numerals.specs.Decimal.{digit_byte, decimal}
use Rattle.numerals.specs.Lines.{Line, line_bytes, bytes_of_lines}
use borrow.Rule.Slice.PartMut.{put_mid}
use Rattle.std.proofs.lemmas.List.Edits.{sets-eq}
use Rattle.numerals.specs.Put.{Put}
use Rattle.numerals.proofs.DecimalLaws.{decimal_one, decimal_more, length_one, length_more}
use Rattle.numerals.proofs.LineLaws.{lines_none, lines_one, lines_more, lines_append}
use Rattle.laws.proofs.Stores.{sets_append}

put_byte : (l : List ℕ) (i a : ℕ) → Put l i (a ∷ []) (i + 1) (set l i a)
put_byte l i a = record { ends = refl; holds = refl }

module _ {l m : List ℕ} {i p : ℕ} {xs : List ℕ} (a : Put l i xs p m) where
  pub put_length : length m ≡ length l
  put_length = ap length a.holds ∙ length-sets l i xs

  -- the same bytes, said otherwise
  pub put_same : {ys : List ℕ} → xs ≡ ys → Put l i ys p m
  put_same e = rw (← e) a

  -- one part, then another behind it
  pub put_then : {k : List ℕ} {q : ℕ} {ys : List ℕ} → Put m p ys q k → Put l i (xs ++ ys) q k
  put_then {ys = ys} b = record {
    ends = omega (arith, a.ends, b.ends, length-append xs ys);
    holds = b.holds ∙ rw (a.holds, a.ends) (sym (sets_append xs ys l i));
  }

-- nothing
pub put_nothing : (l : List ℕ) (i : ℕ) → Put l i [] i l
put_nothing l i = record { ends = omega arith; holds = refl }

-- the digits of a number, and the byte that ends them
pub put_digit : (l : List ℕ) (i n : ℕ) → n < 10 → Put l i (decimal n) (i + 1) (set l i (digit_byte (n % 10)))
put_digit l i n h = let e : n % 10 ≡ n = omega arith in rw (decimal_one n h, e) (put_byte l i (digit_byte n))

pub put_digits : {l m : List ℕ} {i n p : ℕ} → 10 ≤ n → Put l i (decimal (n / 10)) p m → Put l i (decimal n) (p + 1) (set m p (digit_byte (n % 10)))
put_digits {m = m} {n = n} {p = p} h a = rw (decimal_more n h) (put_then a (put_byte m p (digit_byte (n % 10))))

pub ruleset number_laws = (length_one, length_more, put_length, put_digit, put_digits)

pub put_end : {l m : List ℕ} {i p : ℕ} (n end : ℕ) → Put l i (decimal n) p m → Put l i (decimal n ++ (end ∷ [])) (p + 1) (set m p end)
put_end {m = m} {p = p} n end a = put_then a (put_byte m p end)

-- bytes copied as they are
pub put_copy : (l : List ℕ) (at : ℕ) (bytes put : List ℕ) → at + length bytes ≤ length l → put ≡ bytes
    → Put l at bytes (at + length bytes) (put_mid at (at + length bytes - at) l put)
put_copy l at bytes put h e = record {
  ends = refl;
  holds =
      let n : at + length bytes - at ≡ length bytes = omega arith in
      rw (e, n, sets-eq bytes l at h, drop-drop (length bytes) at l) (sym (append_assoc (take at l) bytes (drop (at + length bytes) l)));
}

-- lines: none, one, one and more behind it, and some and more behind them
pub put_none : (l : List ℕ) (i : ℕ) → Put l i (bytes_of_lines []) i l
put_none l i = rw lines_none (put_nothing l i)

module _ {l m : List ℕ} {i p : ℕ} (x : Line) (a : Put l i (line_bytes x) p m) where
  pub put_last : Put l i (bytes_of_lines (x ∷ [])) p m
  put_last = rw (lines_one x) a

  pub put_more : {k : List ℕ} {q : ℕ} (xs : List Line) → Put m p (bytes_of_lines xs) q k → Put l i (bytes_of_lines (x ∷ xs)) q k
  put_more xs b = rw (lines_more x xs) (put_then a b)

pub put_both : {l m k : List ℕ} {i p q : ℕ} (xs ys : List Line) → Put l i (bytes_of_lines xs) p m → Put m p (bytes_of_lines ys) q k
    → Put l i (bytes_of_lines (xs ++ ys)) q k
put_both xs ys a b = rw (lines_append xs ys) (put_then a b)
