-- A fraction as a whole number: the nearest, and the higher of two that are equally near (rules 7.3 and 11.9).
-- Assumes nothing.
use Rattle.std.specs.Prelude.{ℕ, ◌+◌, ◌*◌, ◌/◌, ◌≤◌, ◌<◌}

-- by a division: a over d
abbrev pub nearest_whole : ℕ → ℕ → ℕ
nearest_whole a d = (a + d / 2) / d

-- and without one: c is at most half above a over d, and less than half below
pub record Nearest (a d c : ℕ) : Type 0 where
  pub above : 2 * (d * c) ≤ 2 * a + d
  pub below : 2 * a < 2 * (d * c) + d
