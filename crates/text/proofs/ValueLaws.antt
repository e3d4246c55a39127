-- What is printed of the values of a text that has the form, by the ways on which the call comes to its answer: one law for each row of the table
-- from 1 on, and one for the settlement.
-- Assumes nothing.
use Prim.Native.Nat.{ℕ, ◌*◌, ◌≤◌, ◌<◌}
use mathlib.Core.Bool.{Bool, true, false}
use mathlib.Core.List.{List}
use mathlib.Core.Path.{◌≡◌, refl, sym, ap, ◌∙◌}
use native.Mathlib.Omega.{arith}
use Rattle.std.specs.Option.{is_some}
use Rattle.std.specs.Prelude.{Option, Some, None}
use lib.ListN.{length, replicate, length-replicate}
use Rattle.calendar.specs.WinterOf.{winter_of}
use Rattle.credit.proofs.RefusalLaws.{right_refusal}
use Rattle.credit.proofs.SettlementLaws.{number_is, settled_accepted, settled_by_lem, written_just}
use Rattle.credit.specs.Lines.{lines_to}
use Rattle.credit.specs.Refusals.{refusal_of}
use Rattle.credit.specs.Settlement.{Settlement, settlement, written}
use Rattle.dates.proofs.Promise.{winter_range}
use Rattle.dates.specs.Winters.{no_winter}
use Rattle.laws.proofs.Tables.{row_stops, row_goes}
use Rattle.laws.specs.Answer.{Answer}
use Rattle.laws.specs.Table.{refusal_at, first_of, is_refusal}
use Rattle.money.proofs.PriceLaws.{price_right}
use Rattle.money.specs.Price.{bad_price}
use Rattle.notices.specs.Notices.{notice_numbers, most_notices, count_of}
use Rattle.notices.specs.Profiles.{figures_of}
use Rattle.notices.specs.declared.profiles.Profile.TheVariants.{Credit}
use Rattle.printing.specs.Room.{cannot_print, printed, printed_count}
use Rattle.printing.specs.Sheet.{refused_bytes, statement_bytes}
use Rattle.schedule.proofs.Accepted.{whole_test}
use Rattle.schedule.proofs.Walk.{list_fits}
use Rattle.schedule.specs.ListCheck.{notices_table, bad_list}
use Rattle.settlement.specs.Events.{event_at}
use Rattle.text.specs.Prints.{Prints, NoticesLeft, values_bytes}
use Rattle.text.specs.Refusals.{value_rows}
use Rattle.text.specs.Statement.{room_for, settled_bytes}
use Rattle.text.proofs.PrintLaws.{prints_same, prints, refusal_told, statement_told}

-- row by row
module _ (w p : ℕ) (l : List ℕ) (line : Option ℕ) (book : List ℕ) where
  pub winter_refused : no_winter w ≡ true → refused_bytes 1 0 ≡ values_bytes w p l line book
  unfolding values_bytes value_rows
  winter_refused e = refusal_told (refusal_at 1 0) _ refl (row_stops _ _ e)

  module _ (right : no_winter w ≡ false) where
    pub misplaced_refused : (n : ℕ) → line ≡ Some n → refused_bytes 31 n ≡ values_bytes w p l line book
    unfolding values_bytes value_rows
    misplaced_refused n e = rw e (refusal_told (refusal_at 31 n) _ refl (row_goes _ _ right (row_stops _ _ refl)))

    module _ (placed : line ≡ None) where
      no_line : is_some line ≡ false
      no_line = rw placed

      pub price_refused : bad_price p ≡ true → refused_bytes 3 0 ≡ values_bytes w p l line book
      unfolding values_bytes value_rows
      price_refused e = refusal_told (refusal_at 3 0) _ refl (row_goes _ _ right (row_goes _ _ no_line (row_stops _ _ e)))

      module _ (priced : bad_price p ≡ false) where
        pub list_refused : bad_list (length l) ≡ true → refused_bytes 4 0 ≡ values_bytes w p l line book
        unfolding values_bytes value_rows
        list_refused e = refusal_told (refusal_at 4 0) _ refl (row_goes _ _ right (row_goes _ _ no_line (row_goes _ _ priced (row_stops _ _ e))))

        pub notices_decide : bad_list (length l) ≡ false → first_of (notices_table (winter_of w) (figures_of Credit) l) ≡ first_of (value_rows w line p l)
        unfolding value_rows
        notices_decide e = row_goes _ _ right (row_goes _ _ no_line (row_goes _ _ priced (row_goes _ _ e refl)))

-- more than 100 notices are a bad list
pub many_bad : (l : List ℕ) (n : ℕ) → length l ≡ notice_numbers * n → most_notices < n → bad_list (length l) ≡ true
many_bad l n h m = by (bad_list (length l)) refl
  where
    by : (b : Bool) → bad_list (length l) ≡ b → bad_list (length l) ≡ true
    by true e = e
    by false e = absurd (omega (arith, (list_fits (length l) e).few))

-- the settlement s of a list into lines, of which no more than the notices can be refused
module _ (w p : ℕ) (book l lines out : List ℕ) (left : NoticesLeft w book p l lines out) (s : Settlement) (e : s ≡ settlement w book p l (length lines)) where
  abbrev refusal : Answer
  refusal = refusal_of w (length book) p l (length lines)

  refusal_is : refusal ≡ first_of (value_rows w None p l)
  refusal_is =
      let c = left.call in
      sym (right_refusal w (length book) p l (length lines) c)
      ∙ notices_decide w p l None book ((winter_range w).1 c.winter) refl (price_right p c.price) (whole_test (length l) c.whole c.few)

  pub settled_refused : (s.number ≡ 0 → ⊥) → refused_bytes s.number s.place ≡ values_bytes w p l None book
  unfolding values_bytes
  settled_refused n = by (is_refusal refusal) refl
    where
      by : (b : Bool) → is_refusal refusal ≡ b → refused_bytes s.number s.place ≡ values_bytes w p l None book
      by true q = rw (e, settled_by_lem w p book l (length lines) q) (refusal_told refusal _ q refusal_is)
      by false q = absurd (n (ap (λ (x : Settlement). x.number) (e ∙ settled_accepted w p book l (length lines) q)))

  module _ (z : s.number ≡ 0) where
    accepted : (settlement w book p l (length lines)).number ≡ 0
    accepted = ap (λ (x : Settlement). x.number) (sym e) ∙ z

    -- the lines do not depend on what stood in the output that they fill
    lines_alike : written w book p l lines ≡ written w book p l (replicate (room_for l) 0)
    lines_alike =
        let same : (out : List ℕ) → length out ≡ room_for l → written w book p l out ≡ lines_to p (event_at w book l) (count_of l)
        = λ out g. written_just w p book l out g (rw (g, ← left.just) accepted) in
        same lines left.just ∙ sym (same (replicate (room_for l) 0) (length-replicate (room_for l) 0))

    settled_printed : statement_bytes w p l (written w book p l lines) s.energy s.cents ≡ values_bytes w p l None book
    unfolding values_bytes settled_bytes
    settled_printed =
        rw (e, left.just, lines_alike)
        (statement_told (first_of (value_rows w None p l)) _ (rw (← refusal_is) (number_is w p book l (length lines) accepted)))

    pub statement_printed : count_of l ≤ most_notices → (filled after : List ℕ) (n : ℕ) → filled ≡ written w book p l lines → length lines ≡ length filled
        → (n ≡ printed_count (cannot_print (count_of l) (length filled) (length out)) (statement_bytes w p l filled s.energy s.cents))
        × (after ≡ printed (cannot_print (count_of l) (length filled) (length out)) (statement_bytes w p l filled s.energy s.cents) out)
        → Prints (values_bytes w p l None book) out n after
    statement_printed few filled after n f g shown =
        prints_same
        (prints (statement_bytes w p l filled s.energy s.cents) out after n (count_of l) (length filled) (omega (arith, left.just)) few left.room shown)
        (ap (λ (x : List ℕ). statement_bytes w p l x s.energy s.cents) f ∙ settled_printed)
