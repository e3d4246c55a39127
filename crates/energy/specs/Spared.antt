-- From R, B, A and C to the spared energy, signed, in whole eighteenths of a Wh (rule 6.1), in the letters of section 6.
-- Assumes nothing.
use Rattle.std.specs.Prelude.{ℕ, ◌*◌, ◌/◌, Bool, cond, ℤ, pos, negsuc, ◌+ℤ◌, ◌-ℤ◌, ◌*ℤ◌}
use Rattle.std.specs.Int.Signed.{lt_z}

-- 3A - B (rule 6.5)
abbrev pub change : ℕ → ℕ → ℤ
change a b = pos (3 * a) -ℤ pos b

-- rule 6.6: 6R, plus the adjustment of d, less 18C; d stands for D or for what is taken in its place
abbrev pub with_adjustment : ℕ → ℕ → ℕ → ℕ → ℤ → ℤ
with_adjustment h w r c d = pos (6 * r) +ℤ d *ℤ pos (6 * h / w) -ℤ pos (18 * c)

-- rule 6.7: the trial, by D without the limit
unfoldable pub trial_of : ℕ → ℕ → ℕ → ℕ → ℕ → ℕ → ℤ
trial_of h w r b a c = with_adjustment h w r c (change a b)

-- rule 6.8: whether the limit is looked at
unfoldable pub above_limit : ℕ → ℕ → ℕ → ℕ → ℕ → ℕ → Bool
above_limit h w r b a c = lt_z (pos 720000) (trial_of h w r b a c)

-- rule 6.8: the lower of two
abbrev pub lesser : ℤ → ℤ → ℤ
lesser x y = cond (lt_z y x) y x

-- rule 6.9: nothing below 0
abbrev pub floored : ℤ → ℕ
floored (pos n) = n
floored (negsuc n) = 0

-- rule 6.9: the spared energy, from H, W, R, B, A, C
unfoldable pub spared_of : ℕ → ℕ → ℕ → ℕ → ℕ → ℕ → ℕ
spared_of h w r b a c =
    floored (with_adjustment h w r c (cond (above_limit h w r b a c) (lesser (change a b) (pos (2 * b))) (change a b)))
