-- How far two numbers are apart (rules 10.6 and 10.7).
-- Assumes nothing.
use Rattle.std.specs.Prelude.{ℕ, ◌+◌, ◌*◌, ◌≤◌, ◌<◌}

-- a and b differ by less than d
pub record Near (a b d : ℕ) : Type 0 where
  pub above : a < b + d
  pub below : b < a + d

-- a and b differ by at most half of d
pub record NearHalf (a b d : ℕ) : Type 0 where
  pub above : 2 * a ≤ 2 * b + d
  pub below : 2 * b ≤ 2 * a + d
