-- What a host lends reads back: the numbers in the bytes of some numbers of 32 bits are these, one by one and then as a list.
-- Assumes nothing.
use Prim.Native.Nat.{ℕ, zero, suc, ◌+◌, ◌*◌, ◌^◌, ◌<◌}
use mathlib.Core.List.{List, [], ◌∷◌, ◌++◌, append-nil}
use mathlib.Core.Path.{◌≡◌, refl, sym, ap, ◌∙◌}
use native.Mathlib.Omega.{arith}
use lib.ListN.{length, get_or, length-append}
use lib.Seq.{ext_get_or}
use Rattle.std.proofs.lemmas.Nat.{from_le_bytes-to_le_bytes_4}
use Rattle.laws.proofs.Every.{Every}
use Rattle.laws.proofs.RowLaws.{one_wide, row_in}
use Rattle.wire.specs.Bytes.{four_bytes_at, numbers_to}
use Rattle.wire.specs.Lent.{four_bytes, lent_bytes}
use Rattle.wire.proofs.ReadLaws.{numbers_long}
use Rattle.wire.proofs.RoundTrip.{number_front, number_behind}

-- a number of 32 bits
abbrev pub Fits : ℕ → Type 0
Fits v = v < 2 ^ 32

four_long : (v : ℕ) → length (four_bytes v) ≡ 4
unfolding four_bytes
four_long v = refl

pub lent_long : (vs : List ℕ) → length (lent_bytes vs) ≡ 4 * length vs
unfolding lent_bytes
lent_long [] = refl
lent_long (v ∷ vs) = simp length-append (omega (arith, four_long v, lent_long vs))

four_back : (v : ℕ) → Fits v → four_bytes_at (four_bytes v) 0 ≡ v
unfolding four_bytes four_bytes_at
four_back v h = omega (arith, from_le_bytes-to_le_bytes_4 v h)

number_back_lem : (vs : List ℕ) (k : ℕ) → k < length vs → Every Fits vs → four_bytes_at (lent_bytes vs) (4 * k) ≡ get_or vs k 0
unfolding lent_bytes
number_back_lem [] k h fits = absurd (omega arith)
number_back_lem (v ∷ vs) zero h fits = number_front (four_bytes v) (lent_bytes vs) 0 (omega (arith, four_long v)) ∙ four_back v fits.0
number_back_lem (v ∷ vs) (suc k) h fits =
    let next : 4 * suc k ≡ 4 + 4 * k = omega arith in
    rw next (number_behind (four_bytes v) (lent_bytes vs) 4 (4 * k) (four_long v) ∙ number_back_lem vs k (omega arith) fits.1)

-- what stands at an index of the numbers of some bytes
pub number_at_lem : (bytes : List ℕ) (n k : ℕ) → k < n → get_or (numbers_to bytes n) k 0 ≡ four_bytes_at bytes (4 * k)
number_at_lem bytes n k h =
    ap (λ (l : List ℕ). get_or l k 0) (sym (append-nil (numbers_to bytes n)))
    ∙ ap (λ (i : ℕ). get_or (numbers_to bytes n ++ []) i 0) (let e : k ≡ 1 * k + 0 = omega arith in e)
    ∙ row_in one_wide [] n k 0 h (omega arith)

pub lent_back : (vs : List ℕ) → Every Fits vs → numbers_to (lent_bytes vs) (length vs) ≡ vs
lent_back vs fits =
    let long = numbers_long (lent_bytes vs) (length vs) in
    ext_get_or 0 (numbers_to (lent_bytes vs) (length vs)) vs long
    (λ k h. let among : k < length vs = omega (arith, long) in number_at_lem (lent_bytes vs) (length vs) k among ∙ number_back_lem vs k among fits)
