-- Laws of sub_ℕ a b, the integer a - b of two naturals: its sums, differences, multiples and order go by its two naturals,
-- so that each signed value of the spared energy is a difference and its order a fact of ℕ.
-- Assumes nothing.
use Prim.Native.Nat.{ℕ, zero, suc, ◌+◌, ◌*◌, ◌-◌, ◌≤◌, ◌<◌}
use mathlib.Core.Logic.{⊎_elim}
use mathlib.Core.Path.{◌≡◌, refl, sym, ap, ◌∙◌}
use native.Mathlib.Nat.{add-mul}
use native.Mathlib.Omega.{arith}
use lib.Dec.{ltb}
use lib.IntN.{ℤ, pos, negsuc, neg_ℤ, sub_ℕ, ◌+ℤ◌, ◌-ℤ◌, ◌*ℤ◌}
use lib.Signed.{lt_z}
use borrow.Author.Tests.{lt-ltb, le-ltb}
use Rattle.laws.proofs.Order.{either_order}

sub_neg : (a b : ℕ) → a < b → sub_ℕ a b ≡ negsuc (b - suc a)
sub_neg a b h = rw (lt-ltb a b h)

sub_pos : (a b : ℕ) → b ≤ a → sub_ℕ a b ≡ pos (a - b)
sub_pos a b h = rw (le-ltb a b h)

module _ (a b : ℕ) (P : ℤ → Type 0) where
  -- what holds of a negative and of a non-negative difference holds of every difference
  pub sub_ind : (a < b → P (negsuc (b - suc a))) → (b ≤ a → P (pos (a - b))) → P (sub_ℕ a b)
  sub_ind f g = ⊎_elim (λ h. rw (sub_neg a b h) (f h)) (λ h. rw (sub_pos a b h) (g h)) (either_order a b)

-- the same difference of other numbers is the same integer
pub sub_same : (a b c d : ℕ) → a + d ≡ c + b → sub_ℕ a b ≡ sub_ℕ c d
sub_same a b c d e =
    sub_ind a b (λ z. z ≡ sub_ℕ c d)
    (λ h. rw (sub_neg c d (omega arith)) (ap negsuc (omega arith)))
    (λ h. rw (sub_pos c d (omega arith)) (ap pos (omega arith)))

pub pos_sub : (n : ℕ) → pos n ≡ sub_ℕ n 0
pos_sub n = rw (sub_pos n 0 (omega arith)) (ap pos (omega arith))

pub neg_sub : (a b : ℕ) → neg_ℤ (sub_ℕ a b) ≡ sub_ℕ b a
neg_sub a b =
    sub_ind a b (λ z. neg_ℤ z ≡ sub_ℕ b a)
    (λ h. rw (sub_pos b a (omega arith)) (ap pos (omega arith)))
    (λ h. neg_pos (a - b) ∙ sub_same 0 (a - b) b a (omega arith))
  where
    neg_pos : (n : ℕ) → neg_ℤ (pos n) ≡ sub_ℕ 0 n
    neg_pos zero = refl
    neg_pos (suc n) = rw (sub_neg 0 (suc n) (omega arith)) (ap negsuc (omega arith))

pub add_subs : (a b c d : ℕ) → sub_ℕ a b +ℤ sub_ℕ c d ≡ sub_ℕ (a + c) (b + d)
add_subs a b c d =
    sub_ind a b (λ z. z +ℤ sub_ℕ c d ≡ sub_ℕ (a + c) (b + d))
    (λ h. sub_ind c d (λ z. negsuc (b - suc a) +ℤ z ≡ sub_ℕ (a + c) (b + d))
    (λ k. rw (sub_neg (a + c) (b + d) (omega arith)) (ap negsuc (omega arith)))
    (λ k. sub_same (c - d) (suc (b - suc a)) (a + c) (b + d) (omega arith)))
    (λ h. sub_ind c d (λ z. pos (a - b) +ℤ z ≡ sub_ℕ (a + c) (b + d))
    (λ k. sub_same (a - b) (suc (d - suc c)) (a + c) (b + d) (omega arith))
    (λ k. rw (sub_pos (a + c) (b + d) (omega arith)) (ap pos (omega arith))))

pub sub_subs : (a b c d : ℕ) → sub_ℕ a b -ℤ sub_ℕ c d ≡ sub_ℕ (a + d) (b + c)
sub_subs a b c d = rw (neg_sub c d) (add_subs a b d c)

pub times_sub : (a b k : ℕ) → sub_ℕ a b *ℤ pos k ≡ sub_ℕ (a * k) (b * k)
times_sub a b k =
    sub_ind a b (λ z. z *ℤ pos k ≡ sub_ℕ (a * k) (b * k))
    (λ h. ap neg_ℤ (pos_sub (suc (b - suc a) * k)) ∙ neg_sub (suc (b - suc a) * k) 0
    ∙ sub_same 0 (suc (b - suc a) * k) (a * k) (b * k) (below h))
    (λ h. pos_sub ((a - b) * k) ∙ sub_same ((a - b) * k) 0 (a * k) (b * k) (above h))
  where
    below : a < b → 0 + b * k ≡ a * k + suc (b - suc a) * k
    below h =
        let e : a + suc (b - suc a) ≡ b = omega arith in
        rw (← add-mul a (suc (b - suc a)) k) (rw e (omega arith))

    above : b ≤ a → (a - b) * k + b * k ≡ a * k + 0
    above h =
        let e : a - b + b ≡ a = omega arith in
        rw (← add-mul (a - b) b k) (rw e (omega arith))

-- a number is below a difference exactly when it is with what is taken away added to it
pub lt_sub : (n x y : ℕ) → lt_z (pos n) (sub_ℕ x y) ≡ ltb (n + y) x
lt_sub n x y =
    sub_ind x y (λ z. lt_z (pos n) z ≡ ltb (n + y) x)
    (λ h. sym (le-ltb (n + y) x (omega arith)))
    (λ h. ⊎_elim
    (λ k. lt-ltb n (x - y) k ∙ sym (lt-ltb (n + y) x (omega arith)))
    (λ k. le-ltb n (x - y) k ∙ sym (le-ltb (n + y) x (omega arith)))
    (either_order n (x - y)))
