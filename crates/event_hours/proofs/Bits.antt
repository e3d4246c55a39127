-- Laws of bits: those of `|` and `&`, those of half a number, and that two numbers with the same bits are the same.
-- Assumes nothing.
use Prim.Native.Nat.{ℕ, zero, suc, ◌+◌, ◌/◌, ◌^◌, ◌≤◌, ◌<◌, min, max}
use mathlib.Core.Logic.{◌⊎◌, inl, inr, ◌↔◌}
use mathlib.Core.Path.{◌≡◌, refl, sym, ◌∙◌}
use native.Mathlib.Nat.{zero-div}
use native.Mathlib.Numerals.{one-add}
use native.Mathlib.Omega.{arith}
use lib.Bits.{bit_and, bit_or, and_shr, and_step, or_shr, or_step}
use lib.Pow.{shr-shr}
use Rattle.event_hours.specs.Hours.{bit_at}

pub bit_zero : (h : ℕ) → bit_at 0 h ≡ 0
bit_zero h = rw (zero-div (2 ^ h))

pub bit_half : (m h : ℕ) → bit_at m (suc h) ≡ bit_at (m / 2) h
bit_half m h = rw (shr-shr m 1 h, one-add)

-- `|`: a bit is set exactly where it is set in one of the two

bit_or_lem : (a b h : ℕ) → bit_at (bit_or a b) h ≡ max (bit_at a h) (bit_at b h)
bit_or_lem a b h = rw (or_shr a b h) (omega (arith, or_step (a / 2 ^ h) (b / 2 ^ h)))

either : (x y : ℕ) → x < 2 → max x y ≡ 1 → (x ≡ 1) ⊎ (y ≡ 1)
either zero y a m = inr (omega arith)
either (suc x) y a m = inl (omega arith)

pub or_either : (a b h : ℕ) → bit_at (bit_or a b) h ≡ 1 → (bit_at a h ≡ 1) ⊎ (bit_at b h ≡ 1)
or_either a b h e = either (bit_at a h) (bit_at b h) (omega arith) (sym (bit_or_lem a b h) ∙ e)

pub or_left : (a b h : ℕ) → bit_at a h ≡ 1 → bit_at (bit_or a b) h ≡ 1
or_left a b h e = omega (arith, bit_or_lem a b h)

pub or_right : (a b h : ℕ) → bit_at b h ≡ 1 → bit_at (bit_or a b) h ≡ 1
or_right a b h e = omega (arith, bit_or_lem a b h)

-- `&`: a bit is set exactly where it is set in both

bit_and_lem : (a b h : ℕ) → bit_at (bit_and a b) h ≡ min (bit_at a h) (bit_at b h)
bit_and_lem a b h = rw (and_shr a b h) (omega (arith, and_step (a / 2 ^ h) (b / 2 ^ h)))

pub and_both : (a b h : ℕ) → (bit_at (bit_and a b) h ≡ 1) ↔ ((bit_at a h ≡ 1) × (bit_at b h ≡ 1))
and_both a b h = (λ e. (omega (arith, bit_and_lem a b h), omega (arith, bit_and_lem a b h)), λ p. omega (arith, bit_and_lem a b h))

-- every bit that is set in a is set in b
abbrev pub BitsIn : ℕ → ℕ → Type 0
BitsIn a b = (h : ℕ) → bit_at a h ≡ 1 → bit_at b h ≡ 1

within_halves : (a b : ℕ) → BitsIn a b → BitsIn (a / 2) (b / 2)
within_halves a b f h e = sym (bit_half b h) ∙ f (suc h) (bit_half a h ∙ e)

-- a bit is 0 or 1, so two bits that are 1 together are the same
same_bit : (x y : ℕ) → x < 2 → y < 2 → (x ≡ 1 → y ≡ 1) → (y ≡ 1 → x ≡ 1) → x ≡ y
same_bit zero zero a b f g = refl
same_bit zero (suc y) a b f g = let z : ◌≡◌ {A = ℕ} 0 1 = g (omega arith) in omega arith
same_bit (suc x) y a b f g = let z : y ≡ 1 = f (omega arith) in omega arith

-- numbers up to k: their lowest bits are the same, and so are their halves
same_up_to : (k a b : ℕ) → a ≤ k → b ≤ k → BitsIn a b → BitsIn b a → a ≡ b
same_up_to zero a b p q f g = omega arith
same_up_to (suc k) a b p q f g =
    let halves : a / 2 ≡ b / 2 = same_up_to k (a / 2) (b / 2) (omega arith) (omega arith) (within_halves a b f) (within_halves b a g) in
    let lowest : bit_at a 0 ≡ bit_at b 0 = same_bit (bit_at a 0) (bit_at b 0) (omega arith) (omega arith) (f 0) (g 0) in
    omega arith

pub same_bits : (a b : ℕ) → BitsIn a b → BitsIn b a → a ≡ b
same_bits a b f g = same_up_to (a + b) a b (omega arith) (omega arith) f g
