-- The signed formula of the spared energy as differences of naturals: one law for each way out of the code,
-- at most 40 kWh on trial, above it with A not above B, and above it with A above B, where the limit stands.
-- Assumes nothing.
use Prim.Native.Nat.{ℕ, ◌+◌, ◌*◌, ◌-◌, ◌/◌, ◌≤◌, ◌<◌}
use mathlib.Core.Bool.{Bool, true, false, cond}
use mathlib.Core.Path.{◌≡◌, refl, ap, ◌∙◌}
use native.Mathlib.Omega.{arith}
use lib.Dec.{ltb}
use lib.IntN.{ℤ, pos, sub_ℕ, ◌+ℤ◌, ◌-ℤ◌}
use lib.Signed.{lt_z}
use borrow.Author.Tests.{lt-ltb, le-ltb}
use Rattle.energy.specs.Spared.{change, with_adjustment, trial_of, above_limit, lesser, floored, spared_of}
use Rattle.energy.proofs.Signs.{sub_ind, sub_same, pos_sub, sub_subs, add_subs, times_sub, lt_sub}

floor_sub : (x y : ℕ) → floored (sub_ℕ x y) ≡ x - y
floor_sub x y = sub_ind x y (λ z. floored z ≡ x - y) (λ h. omega arith) (λ h. refl)

change_is : (a b : ℕ) → change a b ≡ sub_ℕ (3 * a) b
change_is a b =
    ap (λ (z : ℤ). z -ℤ pos b) (pos_sub (3 * a)) ∙ ap (λ (z : ℤ). sub_ℕ (3 * a) 0 -ℤ z) (pos_sub b)
    ∙ sub_subs (3 * a) 0 b 0 ∙ sub_same (3 * a + 0) (0 + b) (3 * a) b (omega arith)

-- with the difference p - m in place of 3A - B: what is added less what is taken away
adjusted_is : (h w r c p m : ℕ) → with_adjustment h w r c (sub_ℕ p m) ≡ sub_ℕ (6 * r + p * (6 * h / w)) (m * (6 * h / w) + 18 * c)
adjusted_is h w r c p m =
    ap (λ (z : ℤ). pos (6 * r) +ℤ z -ℤ pos (18 * c)) (times_sub p m k)
    ∙ ap (λ (z : ℤ). z +ℤ sub_ℕ (p * k) (m * k) -ℤ pos (18 * c)) (pos_sub (6 * r))
    ∙ ap (λ (z : ℤ). z -ℤ pos (18 * c)) (add_subs (6 * r) 0 (p * k) (m * k))
    ∙ ap (λ (z : ℤ). sub_ℕ (6 * r + p * k) (0 + m * k) -ℤ z) (pos_sub (18 * c))
    ∙ sub_subs (6 * r + p * k) (0 + m * k) (18 * c) 0
    ∙ sub_same (6 * r + p * k + 0) (0 + m * k + 18 * c) (6 * r + p * k) (m * k + 18 * c) (omega arith)
  where
    k : ℕ
    k = 6 * h / w

cond_same : (t : Bool) (x : ℤ) → cond t x x ≡ x
cond_same true x = refl
cond_same false x = refl

module _ (h w r b a c : ℕ) where
  -- the spared energy, with d in place of 3A - B
  from : ℤ → ℕ
  from d = floored (with_adjustment h w r c (cond (lt_z (pos 720000) (with_adjustment h w r c d)) (lesser d (pos (2 * b))) d))

  as_from : spared_of h w r b a c ≡ from (sub_ℕ (3 * a) b)
  unfolding from spared_of above_limit trial_of
  as_from = ap from (change_is a b)

  -- what is added and what is taken away
  more : ℕ
  more = 6 * r + 3 * a * (6 * h / w)

  less : ℕ
  less = b * (6 * h / w) + 18 * c

  trial : lt_z (pos 720000) (with_adjustment h w r c (sub_ℕ (3 * a) b)) ≡ ltb (720000 + less) more
  unfolding more less
  trial = rw (adjusted_is h w r c (3 * a) b) (lt_sub 720000 (6 * r + 3 * a * (6 * h / w)) (b * (6 * h / w) + 18 * c))

  plain : floored (with_adjustment h w r c (sub_ℕ (3 * a) b)) ≡ more - less
  unfolding more less
  plain = rw (adjusted_is h w r c (3 * a) b) (floor_sub (6 * r + 3 * a * (6 * h / w)) (b * (6 * h / w) + 18 * c))

  capped : floored (with_adjustment h w r c (pos (2 * b))) ≡ 6 * r + 2 * b * (6 * h / w) - 18 * c
  capped =
      ap (λ (z : ℤ). floored (with_adjustment h w r c z)) (pos_sub (2 * b)) ∙ ap floored (adjusted_is h w r c (2 * b) 0)
      ∙ (floor_sub (6 * r + 2 * b * (6 * h / w)) (0 * (6 * h / w) + 18 * c) ∙ omega arith)

  pub spared_below : 6 * r + 3 * a * (6 * h / w) ≤ 720000 + (b * (6 * h / w) + 18 * c)
      → spared_of h w r b a c ≡ 6 * r + 3 * a * (6 * h / w) - (b * (6 * h / w) + 18 * c)
  unfolding from more less
  spared_below t = as_from ∙ rw (trial, le-ltb (720000 + less) more t) plain

  -- 3A - B is at most 2B when A is at most B
  pub spared_uncapped : a ≤ b → spared_of h w r b a c ≡ 6 * r + 3 * a * (6 * h / w) - (b * (6 * h / w) + 18 * c)
  unfolding from more less
  spared_uncapped t = as_from ∙ rw (lt_sub (2 * b) (3 * a) b, le-ltb (2 * b + b) (3 * a) (omega arith), cond_same) plain

  pub spared_capped : 720000 + (b * (6 * h / w) + 18 * c) < 6 * r + 3 * a * (6 * h / w) → b < a
      → spared_of h w r b a c ≡ 6 * r + 2 * b * (6 * h / w) - 18 * c
  unfolding from more less
  spared_capped t u =
      as_from
      ∙ rw (trial, lt-ltb (720000 + less) more t, lt_sub (2 * b) (3 * a) b, lt-ltb (2 * b + b) (3 * a) (omega arith)) capped
