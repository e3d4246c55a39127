-- What a price that is not refused is, and what the call on an energy answers, one law for each way out.
-- Assumes nothing.
use Prim.Native.Nat.{ℕ, ◌≤◌, ◌<◌}
use mathlib.Core.Bool.{true, false}
use mathlib.Core.Path.{◌≡◌}
use lib.Dec.{ltb}
use borrow.Author.Tests.{ltb-false, le-ltb, lt-ltb}
use Rattle.laws.proofs.Guards.{neither, no_fault}
use Rattle.money.specs.Price.{highest_price, bad_price}
use Rattle.money.specs.Worth.{rounded_worth, most_energy, worth_of}

-- 1 to 1,000,000
pub record RightPrice (p : ℕ) : Type 0 where
  pub some : 1 ≤ p
  pub most : p ≤ highest_price

pub right_price : (p : ℕ) → bad_price p ≡ false → RightPrice p
unfolding bad_price
right_price p e =
    let n = neither (ltb p 1) (ltb highest_price p) e in
    record { some = ltb-false p 1 n.0; most = ltb-false highest_price p n.1 }

pub price_most : (p : ℕ) → bad_price p ≡ false → p ≤ highest_price
price_most p e = (right_price p e).most

pub price_right : (p : ℕ) → RightPrice p → bad_price p ≡ false
unfolding bad_price
price_right p r = no_fault (ltb p 1) (ltb highest_price p) (le-ltb p 1 r.some) (le-ltb highest_price p r.most)

module _ (p e : ℕ) where
  pub worth_refused : bad_price p ≡ true → 0 ≡ worth_of p e
  unfolding worth_of
  worth_refused b = rw b

  pub worth_too_much : bad_price p ≡ false → most_energy < e → 0 ≡ worth_of p e
  unfolding worth_of
  worth_too_much b h = rw (b, lt-ltb most_energy e h)

  pub worth_is : bad_price p ≡ false → e ≤ most_energy → rounded_worth p e ≡ worth_of p e
  unfolding worth_of
  worth_is b h = rw (b, le-ltb most_energy e h)

pub ruleset price_laws = (price_most, worth_refused, worth_too_much, worth_is)
