-- Laws of the refusals: what each guard of the call refuses, what is known of cents that are not refused, and the other way round; bounds of what is
-- refused.
-- Assumes nothing.
use Prim.Native.Nat.{ℕ, ◌≤◌, ◌<◌}
use mathlib.Core.Bool.{true, false}
use mathlib.Core.List.{List, ◌++◌}
use mathlib.Core.Path.{◌≡◌, sym, ap, subst}
use native.Mathlib.Omega.{arith}
use lib.ListN.{length}
use borrow.Author.Tests.{ltb-false, lt-ltb, le-ltb}
use Rattle.laws.proofs.Above.{none_low, low_none}
use Rattle.laws.proofs.Above as above
use Rattle.laws.proofs.Every.{left, right, joined}
use Rattle.laws.proofs.Tables.{Numbered, NoneBroken, row_stops, row_goes, rows_end, unrefused_none, none_accepted, told_none, told_stops, part_goes}
use Rattle.laws.proofs.Tables.{Bounded, RowsBounded, bounded_first, bounded_parts}
use Rattle.laws.specs.Bounds.{largest_energy, largest_number}
use Rattle.laws.specs.Table.{refusal_at, Row, first_of, is_refusal}
use Rattle.money.specs.Price.{bad_price}
use Rattle.money.specs.Pricing.{Priceable}
use Rattle.money.specs.Refusals.{price_rows, energy_rows, cents_table, cents_refusal}
use Rattle.money.specs.Worth.{most_energies}
use Rattle.refusals.proofs.RuleNumbers.{number_range}
use Rattle.refusals.specs.Refusals.{rule_number, at, verdict_paper}
use Rattle.refusals.specs.declared.rule.Rule.{Rule}
use Rattle.std.specs.Prelude.{Err, ⊤}
use Rattle.money.proofs.PriceLaws.{RightPrice, right_price, price_right}

-- the guards, one law for each way out
module _ (p energies room : ℕ) where
  pub price_refused : bad_price p ≡ true → refusal_at 3 0 ≡ first_of (price_rows p energies room)
  unfolding price_rows
  price_refused f = row_stops _ _ f

  module _ (m : bad_price p ≡ false) where
    pub many_refused : most_energies < energies → refusal_at 4 0 ≡ first_of (price_rows p energies room)
    unfolding price_rows
    many_refused h = row_goes _ _ m (row_stops _ _ (lt-ltb most_energies energies h))

    module _ (few : energies ≤ most_energies) where
      pub room_refused : room < energies → refusal_at 6 0 ≡ first_of (price_rows p energies room)
      unfolding price_rows
      room_refused h = row_goes _ _ m (row_goes _ _ (le-ltb most_energies energies few) (row_stops _ _ (lt-ltb room energies h)))

      pub none_refused : energies ≤ room → refusal_at 0 0 ≡ first_of (price_rows p energies room)
      unfolding price_rows
      none_refused h = row_goes _ _ m (row_goes _ _ (le-ltb most_energies energies few) (row_goes _ _ (le-ltb room energies h) rows_end))

pub ruleset guard_laws = (price_refused, many_refused, room_refused, none_refused)

-- what holds of a call that its own rows do not refuse
pub record RightCall (p energies room : ℕ) : Type 0 where
  pub price : RightPrice p
  pub few : energies ≤ most_energies
  pub room_enough : energies ≤ room

module _ (p energies room : ℕ) where
  rows_numbered : Numbered (price_rows p energies room)
  unfolding price_rows
  rows_numbered = omega arith

  none_right : NoneBroken (price_rows p energies room) → RightCall p energies room
  unfolding price_rows
  none_right none =
      record { price = right_price p none.0; few = ltb-false most_energies energies none.1.0; room_enough = ltb-false room energies none.1.1.0 }

  right_none : RightCall p energies room → NoneBroken (price_rows p energies room)
  unfolding price_rows
  right_none r = (price_right p r.price, (le-ltb most_energies energies r.few, (le-ltb room energies r.room_enough, tt)))

  rows_bounded : RowsBounded (price_rows p energies room)
  unfolding price_rows
  rows_bounded = omega arith

  -- a call that a number tells
  module _ (number : ℕ) (e : refusal_at number 0 ≡ first_of (price_rows p energies room)) where
    pub call_right : number ≡ 0 → RightCall p energies room
    call_right z = none_right (told_none (price_rows p energies room) number e rows_numbered z)

    pub call_bounded : number ≤ largest_number
    call_bounded = (subst Bounded (sym e) (bounded_first (price_rows p energies room) rows_bounded)).0

module _ (p : ℕ) (energies : List ℕ) (room : ℕ) where
  abbrev call : List Row
  call = price_rows p (length energies) room

  pub table_numbered : Numbered (cents_table p energies room)
  unfolding cents_table
  table_numbered =
      joined (λ (r : Row). 1 ≤ r.number) call (energy_rows energies) (rows_numbered p (length energies) room)
      (above.table_numbered 7 largest_energy energies (omega arith))

  -- the call's own rows decide, else the energies
  module _ (number : ℕ) (e : refusal_at number 0 ≡ first_of call) where
    pub by_call : (number ≡ 0 → ⊥) → refusal_at number 0 ≡ cents_refusal p energies room
    unfolding cents_refusal cents_table
    by_call f = told_stops call number e (energy_rows energies) f

    pub by_energies : number ≡ 0 → first_of (energy_rows energies) ≡ cents_refusal p energies room
    unfolding cents_refusal cents_table
    by_energies z = part_goes call (energy_rows energies) (told_none call number e (rows_numbered p (length energies) room) z)

  -- a rule that refuses the call is the refusal, with place 0
  pub call_refuses : (rule : Rule) → refusal_at (rule_number rule) 0 ≡ first_of call → verdict_paper {A = ⊤} (Err (at rule 0)) ≡ cents_refusal p energies room
  call_refuses rule e = let some = number_range rule in by_call (rule_number rule) e (λ (z : rule_number rule ≡ 0). omega arith)

  -- what is not refused can be priced, and the other way round
  pub unrefused_priceable : is_refusal (cents_refusal p energies room) ≡ false → Priceable p energies room
  unfolding cents_refusal cents_table
  unrefused_priceable e =
      let none = unrefused_none (call ++ energy_rows energies) table_numbered e in
      let own = none_right p (length energies) room (left (λ (r : Row). r.broken ≡ false) call (energy_rows energies) none) in
      record {
        some = own.price.some;
        most = own.price.most;
        few = own.few;
        room_enough = own.room_enough;
        low = none_low 7 largest_energy energies (right (λ (r : Row). r.broken ≡ false) call (energy_rows energies) none);
      }

  pub priceable_unrefused : Priceable p energies room → is_refusal (cents_refusal p energies room) ≡ false
  unfolding cents_refusal cents_table
  priceable_unrefused s =
      let own : RightCall p (length energies) room = record {
        price = record { some = s.some; most = s.most };
        few = s.few;
        room_enough = s.room_enough;
      } in
      ap is_refusal
      (none_accepted (call ++ energy_rows energies)
      (joined (λ (r : Row). r.broken ≡ false) call (energy_rows energies) (right_none p (length energies) room own)
      (low_none 7 largest_energy energies s.low)))

  -- numbers and places are bounded
  pub refusal_bounded : Bounded (cents_refusal p energies room)
  unfolding cents_refusal cents_table
  refusal_bounded =
      bounded_parts call (energy_rows energies) (rows_bounded p (length energies) room)
      (λ none. bounded_first (energy_rows energies)
      (above.table_bounded 7 largest_energy energies (omega arith) (omega (arith, (none_right p (length energies) room none).few))))

-- of the output's length only its room for the cents counts
pub refusal_room : (p : ℕ) (energies : List ℕ) (a b : ℕ) → length energies ≤ a → length energies ≤ b → cents_refusal p energies a ≡ cents_refusal p energies b
unfolding cents_refusal cents_table price_rows
refusal_room p energies a b ha hb = rw (le-ltb a (length energies) ha, le-ltb b (length energies) hb)
