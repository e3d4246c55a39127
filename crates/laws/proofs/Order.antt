-- Two numbers stand in one order or the other.
-- Assumes nothing.
use Prim.Native.Nat.{ℕ, ◌≤◌, ◌<◌}
use mathlib.Core.Logic.{◌⊎◌, inl, inr}
use native.Mathlib.Decide.{dec_lt}
use native.Mathlib.Omega.{arith}

pub either_order : (a b : ℕ) → (a < b) ⊎ (b ≤ a)
either_order a b = split (dec_lt a b)
  where
    split : Dec (a < b) → (a < b) ⊎ (b ≤ a)
    split (yes h) = inl h
    split (no f) = inr (omega arith)
