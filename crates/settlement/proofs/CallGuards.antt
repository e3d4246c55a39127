-- What each guard of a call refuses, past what the book is refused with: one law for each way out.
-- Assumes nothing.
use Prim.Native.Nat.{ℕ}
use mathlib.Core.Bool.{true, false}
use mathlib.Core.Path.{◌≡◌, sym, ◌∙◌}
use native.Mathlib.Omega.{arith}
use Rattle.book.proofs.RefusalLaws.{book_numbered}
use Rattle.book.specs.Refusals.{book_rows}
use Rattle.laws.proofs.Tables.{row_stops, row_goes, rows_end, accepted_none, told_stops, part_goes}
use Rattle.laws.specs.Table.{accepted, refusal_at, first_of}
use Rattle.refusals.proofs.RuleNumbers.{number_range}
use Rattle.refusals.specs.Refusals.{rule_number}
use Rattle.refusals.specs.declared.rule.Rule.{Rule}
use Rattle.schedule.specs.ListCheck.{bad_list}
use Rattle.settlement.specs.Refusals.{short_output, own_rows, call_rows}

module _ (w readings numbers room : ℕ) where
  pub book_refused : (rule : Rule) → refusal_at (rule_number rule) 0 ≡ first_of (book_rows w readings)
      → refusal_at (rule_number rule) 0 ≡ first_of (call_rows w readings numbers room)
  unfolding call_rows
  book_refused rule e =
      let some = number_range rule in
      told_stops (book_rows w readings) (rule_number rule) e (own_rows numbers room) (λ (z : rule_number rule ≡ 0). omega arith)

  module _ (e : accepted ≡ first_of (book_rows w readings)) where
    goes : first_of (own_rows numbers room) ≡ first_of (call_rows w readings numbers room)
    unfolding call_rows
    goes = part_goes (book_rows w readings) (own_rows numbers room) (accepted_none (book_rows w readings) (book_numbered w readings) (sym e))

    pub list_refused : bad_list numbers ≡ true → refusal_at 4 0 ≡ first_of (call_rows w readings numbers room)
    list_refused f = row_stops _ _ f ∙ goes

    module _ (l : bad_list numbers ≡ false) where
      pub output_refused : short_output numbers room ≡ true → refusal_at 6 0 ≡ first_of (call_rows w readings numbers room)
      output_refused f = row_goes _ _ l (row_stops _ _ f) ∙ goes

      pub none_refused : short_output numbers room ≡ false → accepted ≡ first_of (call_rows w readings numbers room)
      none_refused f = row_goes _ _ l (row_goes _ _ f rows_end) ∙ goes

pub ruleset guard_laws = (book_refused, list_refused, output_refused, none_refused)
