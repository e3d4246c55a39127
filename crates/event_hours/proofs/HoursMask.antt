-- The mask of the hours s to e - 1: its bits, its count of ones and its count of trailing zeros, each by recursion on the hours, since
-- half the mask is the mask of the hours that are one less.
-- Assumes nothing.
use Prim.Native.Nat.{ℕ, zero, suc, ◌-◌, ◌*◌, ◌/◌, ◌%◌, ◌^◌, ◌≤◌, ◌<◌}
use mathlib.Core.Logic.{◌↔◌}
use mathlib.Core.Path.{◌≡◌, sym, ◌∙◌, ap}
use native.Mathlib.Nat.{pow-suc, one-mul}
use native.Mathlib.Omega.{arith}
use lib.Count.{ones, ones_step, count_trailing_zeros}
use lib.Dec.{lit<}
use lib.Pow.{pow_mono, pow_pos, shl_exact}
use Rattle.event_hours.specs.Hours.{bit_at, hours_mask}
use Rattle.event_hours.proofs.Bits.{bit_half, bit_zero}

-- the mask as the code makes it: a shift of 1 inside a day's 24 bits loses nothing

shl_one : (h : ℕ) → h ≤ 24 → (1 * 2 ^ h) % 2 ^ 32 ≡ 2 ^ h
shl_one h b = shl_exact 1 h 32 (lit< tt) (omega arith) ∙ one-mul (2 ^ h)

pub shifts_order : (s e : ℕ) → s ≤ e → e ≤ 24 → (1 * 2 ^ s) % 2 ^ 32 ≤ (1 * 2 ^ e) % 2 ^ 32
shifts_order s e h b = rw (shl_one s (omega arith), shl_one e b) (pow_mono h)

pub mask_made : (s e : ℕ) → s ≤ e → e ≤ 24 → (1 * 2 ^ e) % 2 ^ 32 - (1 * 2 ^ s) % 2 ^ 32 ≡ hours_mask s e
unfolding hours_mask
mask_made s e h b = rw (shl_one s (omega arith), shl_one e b)

pub mask_small : (s e : ℕ) → e ≤ 24 → hours_mask s e < 2 ^ 24
unfolding hours_mask
mask_small s e h = omega (arith, pow_mono {i = e} {j = 24} h, pow_pos s)

-- its lowest bit, and half of it

no_hours_lem : (s : ℕ) → hours_mask s zero ≡ 0
unfolding hours_mask
no_hours_lem s = omega (arith, pow_pos s)

odd : (e : ℕ) → hours_mask zero (suc e) % 2 ≡ 1
unfolding hours_mask
odd e = omega (arith, pow-suc 2 e, pow_pos e)

odd_half : (e : ℕ) → hours_mask zero (suc e) / 2 ≡ hours_mask zero e
unfolding hours_mask
odd_half e = omega (arith, pow-suc 2 e, pow_pos e)

even : (s e : ℕ) → hours_mask (suc s) (suc e) % 2 ≡ 0
unfolding hours_mask
even s e = omega (arith, pow-suc 2 e, pow-suc 2 s)

even_half : (s e : ℕ) → hours_mask (suc s) (suc e) / 2 ≡ hours_mask s e
unfolding hours_mask
even_half s e = omega (arith, pow-suc 2 e, pow-suc 2 s)

-- rule 2.13: which bits are set
pub hours_bit : (s e h : ℕ) → (bit_at (hours_mask s e) h ≡ 1) ↔ ((s ≤ h) × (h < e))
hours_bit s zero h = (λ q. absurd (omega (arith, bit_zero h, rw (no_hours_lem s) at q)), λ q. absurd (omega arith))
hours_bit zero (suc e) zero = (λ q. omega arith, λ q. omega (arith, odd e))
hours_bit zero (suc e) (suc h) =
    let t : bit_at (hours_mask zero (suc e)) (suc h) ≡ bit_at (hours_mask zero e) h = bit_half _ h ∙ ap (λ (m : ℕ). bit_at m h) (odd_half e) in
    let r = hours_bit zero e h in
    (λ q. let i = r.0 (sym t ∙ q) in omega arith, λ q. t ∙ r.1 (omega arith))
hours_bit (suc s) (suc e) zero = (λ q. absurd (omega (arith, even s e)), λ q. absurd (omega arith))
hours_bit (suc s) (suc e) (suc h) =
    let t : bit_at (hours_mask (suc s) (suc e)) (suc h) ≡ bit_at (hours_mask s e) h = bit_half _ h ∙ ap (λ (m : ℕ). bit_at m h) (even_half s e) in
    let r = hours_bit s e h in
    (λ q. let i = r.0 (sym t ∙ q) in omega arith, λ q. t ∙ r.1 (omega arith))

-- rule 2.15: the ones are the length
pub hours_ones : (s e : ℕ) → ones (hours_mask s e) ≡ e - s
unfolding ones
hours_ones s zero = rw (no_hours_lem s) (omega arith)
hours_ones zero (suc e) = ones_step (hours_mask zero (suc e)) ∙ rw (odd e, odd_half e, hours_ones zero e) (omega arith)
hours_ones (suc s) (suc e) = ones_step (hours_mask (suc s) (suc e)) ∙ rw (even s e, even_half s e, hours_ones s e) (omega arith)

-- rule 2.15: the zeros below them are the start, of any number of bits that holds it
pub hours_zeros : (bits s e : ℕ) → s < e → s < bits → count_trailing_zeros bits (hours_mask s e) ≡ s
unfolding count_trailing_zeros
hours_zeros zero s e h b = absurd (omega arith)
hours_zeros (suc bits) s zero h b = absurd (omega arith)
hours_zeros (suc bits) zero (suc e) h b = rw (odd e)
hours_zeros (suc bits) (suc s) (suc e) h b = rw (even s e, even_half s e, hours_zeros bits s e (omega arith) (omega arith))
