-- Laws of refusals in a column: the first fault decides, and without it what comes after; what is given was not refused.
-- Assumes nothing.
use Prim.Native.Nat.{ℕ, suc}
use mathlib.Core.Bool.{Bool, true, false}
use mathlib.Core.List.{List}
use mathlib.Core.Path.{◌≡◌, refl, ap}
use native.Mathlib.Omega.{arith}
use Rattle.laws.specs.Answer.{Answer, given, refusal, refuse}

pub refused : (a rest : Answer) {f : Bool} → f ≡ true → a ≡ refuse f a rest
unfolding refuse
refused a rest e = rw e

pub kept : (other : Answer) {f : Bool} {a rest : Answer} → f ≡ false → a ≡ rest → a ≡ refuse f other rest
unfolding refuse
kept other e q = rw (e, q)

-- what holds of the refusal where the fault is there, and of what comes after it where it is not, holds of the answer
pub either_way : (P : Answer → Type 0) {a rest : Answer} (f : Bool) → (f ≡ true → P a) → (f ≡ false → P rest) → P (refuse f a rest)
unfolding refuse
either_way P true h g = h refl
either_way P false h g = g refl

pub passed : (n : ℕ) (f : Bool) (rest : Answer) (vs : List ℕ) → refuse f (refusal (suc n)) rest ≡ given vs → (f ≡ false) × (rest ≡ given vs)
unfolding refuse
passed n true rest vs e = absurd (omega (arith, ap (λ (a : Answer). a.number) e))
passed n false rest vs e = (refl, e)
