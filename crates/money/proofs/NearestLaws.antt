-- Laws of the nearest whole number to a fraction: the division gives it, and no other number is it.
-- Assumes nothing.
use Prim.Native.Nat.{ℕ, ◌+◌, ◌/◌, ◌≤◌, ◌<◌}
use mathlib.Core.Logic.{⊎_elim}
use mathlib.Core.Path.{◌≡◌}
use native.Mathlib.Nat.{mod-lt, div-add-mod, mul-le-mul_left, mul-suc}
use native.Mathlib.Omega.{arith}
use Rattle.laws.proofs.Order.{either_order}
use Rattle.money.specs.Nearest.{nearest_whole, Nearest}

pub nearest_whole_lem : (a d : ℕ) → 0 < d → Nearest a d (nearest_whole a d)
nearest_whole_lem a d some =
    let rest = mod-lt (a + d / 2) some in
    let parts = div-add-mod (a + d / 2) d in
    record { above = omega (arith, rest, parts); below = omega (arith, rest, parts) }

-- of two numbers that are both nearest none is the smaller
no_smaller : (a d b c : ℕ) → Nearest a d b → Nearest a d c → b < c → ⊥
no_smaller a d b c m n less = omega (arith, mul-le-mul_left d less, mul-suc d b, m.below, n.above)

pub nearest_one : (a d b c : ℕ) → Nearest a d b → Nearest a d c → b ≡ c
nearest_one a d b c m n =
    ⊎_elim
    (λ (l : b < c). absurd (no_smaller a d b c m n l))
    (λ (l : c ≤ b). ⊎_elim
    (λ (g : c < b). absurd (no_smaller a d c b n m g))
    (λ (g : b ≤ c). omega arith)
    (either_order c b))
    (either_order b c)
