-- Refusals are exact: a settlement is accepted exactly when the call is right and its list keeps every rule of the winter credit; what is
-- answered is told by the table; and a refusal leaves totals 0 and writes nothing.
-- Assumes nothing.
use Prim.Native.Nat.{ℕ, ◌*◌, ◌≤◌}
use mathlib.Core.Bool.{Bool, true, false}
use mathlib.Core.List.{List}
use mathlib.Core.Logic.{inl, ◌↔◌}
use mathlib.Core.Path.{◌≡◌, refl, ap}
use lib.ListN.{length}
use Rattle.book.specs.Length.{book_length}
use Rattle.dates.specs.Winters.{days}
use Rattle.laws.proofs.Tables.{unrefused_none}
use Rattle.laws.proofs.Tells.{Tells, table_tells}
use Rattle.laws.specs.Answer.{Answer}
use Rattle.laws.specs.Table.{Row, is_refusal}
use Rattle.money.proofs.PriceLaws.{RightPrice}
use Rattle.notices.specs.Notices.{count_of}
use Rattle.notices.specs.Profiles.{figures_of}
use Rattle.notices.specs.declared.profiles.Profile.TheVariants.{Credit}
use Rattle.schedule.proofs.Accepted.{Lawful}
use Rattle.credit.specs.Lines.{line_numbers}
use Rattle.credit.specs.Refusals.{settlement_table, refusal_of}
use Rattle.credit.specs.Settlement.{Settlement, settlement, written}
use Rattle.credit.proofs.RefusalLaws.{RightCall, table_numbered, settlement_right, list_lawful, right_accepted}
use Rattle.credit.proofs.SettlementLaws.{number_is, settled_accepted, settled_by_lem, written_by_lem}

-- all that a settlement asks: rule 10.3, with the call's own rules
pub record Settles (w readings p : ℕ) (l : List ℕ) (room : ℕ) : Type 0 where
  pub book : readings ≡ book_length (days w)
  pub price : RightPrice p
  pub list : Lawful w (figures_of Credit) l
  pub room_enough : line_numbers * count_of l ≤ room

pub accepted_iff_settles : (w p : ℕ) (book l : List ℕ) (room : ℕ) → ((settlement w book p l room).number ≡ 0) ↔ Settles w (length book) p l room
accepted_iff_settles w p book l room = (
  λ e. let n = number_is w p book l room e in
      let s = settlement_right w (length book) p l room n in
      record { book = s.book; price = s.price; list = list_lawful w (length book) p l room n; room_enough = s.room_enough },
  λ s. let r = s.list in
      let c : RightCall w (length book) p (length l) room =
      record { winter = r.winter; book = s.book; price = s.price; whole = r.whole; few = r.few; room_enough = s.room_enough } in
      rw (settled_accepted w p book l room (right_accepted w (length book) p l room c r)) refl,
)

-- number and place are told by the table: 0 where no row is broken, else those of its first broken row
pub settlement_tells : (w p : ℕ) (book l : List ℕ) (room : ℕ)
    → Tells (settlement_table w (length book) p l room) (settlement w book p l room).number (settlement w book p l room).place
unfolding refusal_of
settlement_tells w p book l room = by (is_refusal refusal) refl
  where
    table : List Row
    table = settlement_table w (length book) p l room

    refusal : Answer
    refusal = refusal_of w (length book) p l room

    by : (b : Bool) → is_refusal refusal ≡ b → Tells table (settlement w book p l room).number (settlement w book p l room).place
    by true q = rw (settled_by_lem w p book l room q) (table_tells table (table_numbered w (length book) p l room) refusal refl)
    by false q =
        rw (settled_accepted w p book l room q)
        (inl (record { none_broken = unrefused_none table (table_numbered w (length book) p l room) q; number_none = refl; place_none = refl }))

-- a refusal writes nothing, and its totals are 0
module _ (w p : ℕ) (book l out : List ℕ) (refused : (settlement w book p l (length out)).number ≡ 0 → ⊥) where
  is_refusal_lem : is_refusal (refusal_of w (length book) p l (length out)) ≡ true
  is_refusal_lem = by (is_refusal (refusal_of w (length book) p l (length out))) refl
    where
      by : (b : Bool) → is_refusal (refusal_of w (length book) p l (length out)) ≡ b → is_refusal (refusal_of w (length book) p l (length out)) ≡ true
      by true q = q
      by false q = absurd (refused (ap (λ (s : Settlement). s.number) (settled_accepted w p book l (length out) q)))

  pub refused_untouched : written w book p l out ≡ out
  refused_untouched = written_by_lem w p book l out is_refusal_lem

  pub refused_totals : ((settlement w book p l (length out)).energy ≡ 0) × ((settlement w book p l (length out)).cents ≡ 0)
  refused_totals = rw (settled_by_lem w p book l (length out) is_refusal_lem) (refl, refl)
