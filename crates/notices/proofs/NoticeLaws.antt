-- The numbers of a notice of a list, and of none; how many hours a notice has; and laws of the hours of the first notices together: none of no
-- notice, those of one notice more, and that they only grow.
-- Assumes nothing.
use Prim.Native.Nat.{ℕ, suc, ◌+◌, ◌-◌, ◌*◌, ◌≤◌, ◌<◌}
use mathlib.Core.List.{List}
use mathlib.Core.Path.{◌≡◌, refl}
use borrow.Author.Tests.{lt-ltb}
use Rattle.laws.proofs.SumLaws.{sum_none, sum_next, sum_grows}
use Rattle.notices.specs.Notices.{notice_numbers, count_of, no_notice, notice_from, notice_at, hours_of, hours_to}
use Rattle.notices.specs.declared.notices.Notice.{Notice}

pub hours_are : (n : Notice) → hours_of n ≡ n.end - n.start
unfolding hours_of
hours_are n = refl

-- a notice of no numbers is none
pub none_is : (day start end : ℕ) → (day ≡ 0) × ((start ≡ 0) × (end ≡ 0)) → record { day = day; start = start; end = end } ≡ no_notice
none_is day start end zero = rw (zero.0, zero.1.0, zero.1.1)

module _ (l : List ℕ) where
  abbrev hours_at : ℕ → ℕ
  hours_at k = hours_of (notice_at l k)

  pub notice_read : (k : ℕ) → k < count_of l → notice_from l (k * notice_numbers) ≡ notice_at l k
  unfolding notice_at
  notice_read k h = rw (lt-ltb k (count_of l) h)

  pub hours_none : hours_to l 0 ≡ 0
  hours_none = sum_none hours_at

  pub hours_next : (k : ℕ) → hours_to l (suc k) ≡ hours_to l k + hours_of (notice_at l k)
  hours_next k = sum_next hours_at k

  -- hours only grow
  pub hours_grow : (j i : ℕ) → i ≤ j → hours_to l i ≤ hours_to l j
  hours_grow j i h = sum_grows hours_at j i h
