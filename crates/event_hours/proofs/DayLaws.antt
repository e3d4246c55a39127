-- Laws of the days' masks: one for each way out of adding a notice, and one for each step of the walk over the notices.
-- Assumes nothing.
use Prim.Native.Nat.{ℕ, ◌+◌, ◌≤◌, ◌<◌}
use mathlib.Core.Bool.{true, false, ◌||◌}
use mathlib.Core.List.{List}
use mathlib.Core.Path.{◌≡◌, refl}
use native.Mathlib.Numerals.{add-one}
use lib.Bits.{bit_or}
use lib.Dec.{leb, ltb}
use lib.ListN.{get_or, set, replicate}
use borrow.Author.Tests.{ltb-false, leb-false, le-ltb, lt-leb}
use Rattle.laws.proofs.Guards.{neither}
use Rattle.notices.specs.Notices.{notice_at}
use Rattle.notices.specs.declared.notices.Notice.{Notice}
use Rattle.event_hours.specs.Days.{marks_none, hours_in, with_hours, masks_to}

-- a notice that names hours of a day that a book can have
pub record Marks (n : Notice) : Type 0 where
  pub in_book : n.day < 152
  pub some_hour : n.start < n.end
  pub in_day : n.end ≤ 24

pub marks : (n : Notice) → marks_none n ≡ false → Marks n
unfolding marks_none
marks n e =
    let p = neither (leb 152 n.day || leb n.end n.start) (ltb 24 n.end) e in
    let q = neither (leb 152 n.day) (leb n.end n.start) p.0 in
    record { in_book = leb-false _ _ q.0; some_hour = leb-false _ _ q.1; in_day = ltb-false _ _ p.1 }

pub marks_some : (n : Notice) → Marks n → marks_none n ≡ false
unfolding marks_none
marks_some n m = rw (lt-leb 152 n.day m.in_book, lt-leb n.end n.start m.some_hour, le-ltb 24 n.end m.in_day)

pub with_none : (masks : List ℕ) (n : Notice) → marks_none n ≡ true → masks ≡ with_hours masks n
unfolding with_hours
with_none masks n e = rw e

-- b: the bits of the notice's hours
pub with_some : (masks : List ℕ) (n : Notice) (b : ℕ) → marks_none n ≡ false → b ≡ hours_in n
    → set masks n.day (bit_or (get_or masks n.day 0) b) ≡ with_hours masks n
unfolding with_hours
with_some masks n b e q = rw (e, q)

-- the walk over the notices: before the first, and one notice on

pub masks_none : (l : List ℕ) → replicate 152 0 ≡ masks_to l 0
unfolding masks_to
masks_none l = refl

pub masks_next : (l : List ℕ) (k : ℕ) {masks next : List ℕ} {n : Notice} → masks ≡ masks_to l k → n ≡ notice_at l k → next ≡ with_hours masks n
    → next ≡ masks_to l (k + 1)
unfolding masks_to
masks_next l k e q r = rw (add-one k, ← e, ← q) r
