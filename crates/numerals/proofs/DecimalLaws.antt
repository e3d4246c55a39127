-- The digits of a number: one below 10, else those of its tenth and one more; at most 20 for a number of 64 bits; each the byte of a digit;
-- and none of them leads with 0 but in 0 itself. Proved by recursion on how many digits are allowed, on which the digits do not depend.
-- Assumes nothing.
use Prim.Native.Nat.{ℕ, zero, suc, ◌+◌, ◌*◌, ◌/◌, ◌%◌, ◌^◌, ◌≤◌, ◌<◌}
use mathlib.Core.Bool.{Bool, true, false, cond}
use mathlib.Core.List.{List, [], ◌∷◌, ◌++◌}
use mathlib.Core.Logic.{⊎_elim}
use mathlib.Core.Path.{◌≡◌, refl, ap, ◌∙◌}
use native.Mathlib.Nat.{div-lt_iff_lt-mul, lt_of_lt_of_le}
use native.Mathlib.Numerals.{unary_clauses}
use native.Mathlib.Omega.{arith}
use lib.Dec.{ltb, leb, lit<, lit≤}
use lib.ListN.{length, length-append}
use borrow.Author.Tests.{lt-ltb, le-ltb, ltb-false, le-leb, leb-true}
use Rattle.laws.proofs.Every.{Every, joined}
use Rattle.laws.proofs.Guards.{both}
use Rattle.laws.proofs.Order.{either_order}
use Rattle.numerals.specs.Decimal.{digit_byte, is_digit, digits_in, decimal}

-- the bytes of the digits are 48 to 57
pub record DigitByte (b : ℕ) : Type 0 where
  pub low : 48 ≤ b
  pub high : b ≤ 57

pub digit_range : (b : ℕ) → is_digit b ≡ true → DigitByte b
unfolding is_digit
digit_range b e = let t = both (leb 48 b) (leb b 57) e in record { low = leb-true 48 b t.0; high = leb-true b 57 t.1 }

pub digit_is : (b : ℕ) → DigitByte b → is_digit b ≡ true
unfolding is_digit
digit_is b d = rw (le-leb 48 b d.low, le-leb b 57 d.high)

by_test : {A : Type 0} (t : Bool) (x y z : A) → (t ≡ false → y ≡ z) → cond t x y ≡ cond t x z
by_test true x y z h = refl
by_test false x y z h = h refl

-- the digits do not depend on how many are allowed
allowed : (f g n : ℕ) → n < f → n < g → digits_in f n ≡ digits_in g n
unfolding digits_in
allowed zero g n h k = absurd (omega arith)
allowed (suc f) zero n h k = absurd (omega arith)
allowed (suc f) (suc g) n h k =
    let tenth : 10 ≤ n → digits_in f (n / 10) ≡ digits_in g (n / 10)
    = λ t. allowed f g (n / 10) (omega arith) (omega arith) in
    by_test (ltb n 10) (digit_byte n ∷ []) _ _ (λ t. ap (λ (l : List ℕ). l ++ (digit_byte (n % 10) ∷ [])) (tenth (ltb-false n 10 t)))

pub decimal_one : (n : ℕ) → n < 10 → decimal n ≡ digit_byte n ∷ []
unfolding decimal digits_in
decimal_one n h = rw (lt-ltb n 10 h)

pub decimal_more : (n : ℕ) → 10 ≤ n → decimal n ≡ decimal (n / 10) ++ (digit_byte (n % 10) ∷ [])
unfolding decimal digits_in
decimal_more n h = rw (le-ltb n 10 h, allowed n (suc (n / 10)) (n / 10) (omega arith) (omega arith))

-- a digit more behind a number above 0
pub decimal_next : (v d : ℕ) → 0 < v → d ≤ 9 → decimal (v * 10 + d) ≡ decimal v ++ (digit_byte d ∷ [])
decimal_next v d h k =
    let x : (v * 10 + d) / 10 ≡ v = omega arith in
    let y : (v * 10 + d) % 10 ≡ d = omega arith in
    decimal_more (v * 10 + d) (omega arith) ∙ rw (x, y)

pub length_one : (n : ℕ) → n < 10 → length (decimal n) ≡ 1
length_one n h = ap length (decimal_one n h)

pub length_more : (n : ℕ) → 10 ≤ n → length (decimal n) ≡ length (decimal (n / 10)) + 1
length_more n h = ap length (decimal_more n h) ∙ length-append (decimal (n / 10)) (digit_byte (n % 10) ∷ [])

-- each of them is the byte of a digit
all_digits : (f n : ℕ) → n < f → Every DigitByte (decimal n)
all_digits zero n h = absurd (omega arith)
all_digits (suc f) n h =
    ⊎_elim (λ (a : n < 10). rw (decimal_one n a) (record { low = omega arith; high = omega arith }, tt))
    (λ (a : 10 ≤ n).
    let last : DigitByte (digit_byte (n % 10)) = record { low = omega arith; high = omega arith } in
    rw (decimal_more n a) (joined DigitByte (decimal (n / 10)) (digit_byte (n % 10) ∷ []) (all_digits f (n / 10) (omega arith)) (last, tt)))
    (either_order n 10)

pub decimal_digits : (n : ℕ) → Every DigitByte (decimal n)
decimal_digits n = all_digits (suc n) n (omega arith)

-- so many digits hold every number below that power of 10
short : (k n : ℕ) → n < 10 ^ suc k → length (decimal n) ≤ suc k
short zero n h = let e : n < 10 = h in omega (arith, length_one n e)
short (suc k) n h =
    ⊎_elim (λ a. omega (arith, length_one n a))
    (λ a.
    let tenth : n / 10 < 10 ^ suc k = (div-lt_iff_lt-mul {k = 10} {x = n} {y = 10 ^ suc k} (lit< tt)).1 (simp unary_clauses (simp unary_clauses at h)) in
    omega (arith, length_more n a, short k (n / 10) tenth))
    (either_order n 10)

pub decimal_short : (n : ℕ) → n < 18446744073709551616 → length (decimal n) ≤ 20
decimal_short n h = short 19 n (lt_of_lt_of_le h (lit≤ tt))

-- the first digit of a number above 0 is not 0
pub record Lead (n : ℕ) : Type 0 where
  pub first : ℕ
  pub more : List ℕ
  pub above : 0 < first
  pub small : first < 10
  pub is : decimal n ≡ digit_byte first ∷ more

leads : (f n : ℕ) → n < f → 0 < n → Lead n
leads zero n g z = absurd (omega arith)
leads (suc f) n g z =
    ⊎_elim
    (λ h. record { first = n; more = []; above = z; small = h; is = decimal_one n h })
    (λ h. let r = leads f (n / 10) (omega arith) (omega arith) in
    record {
      first = r.first;
      more = r.more ++ (digit_byte (n % 10) ∷ []);
      above = r.above;
      small = r.small;
      is = decimal_more n h ∙ ap (λ (x : List ℕ). x ++ (digit_byte (n % 10) ∷ [])) r.is;
    })
    (either_order n 10)

pub lead : (n : ℕ) → 0 < n → Lead n
lead n z = leads (suc n) n (omega arith) z
