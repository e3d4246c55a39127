-- Laws of the refusals: which part of the table decides, what is known of a call that is not refused, and the other way round; bounds of what is
-- refused.
-- Assumes nothing.
use Prim.Native.Nat.{ℕ, ◌*◌, ◌≤◌}
use mathlib.Core.Bool.{false}
use mathlib.Core.List.{List, [], ◌∷◌, ◌++◌, append_assoc}
use mathlib.Core.Path.{◌≡◌, refl, sym, ap, ◌∙◌}
use native.Mathlib.Omega.{arith}
use lib.Dec.{ltb}
use lib.ListN.{length}
use borrow.Author.Tests.{le-ltb}
use Rattle.book.specs.Refusals.{book_rows}
use Rattle.dates.proofs.Promise.{winter_range}
use Rattle.calendar.specs.WinterOf.{winter_of}
use Rattle.laws.proofs.Every.{left, right, joined}
use Rattle.laws.proofs.Tables.{Numbered, NoneBroken, row_goes, unrefused_none, none_accepted, part_goes, parts_alike, told_stops}
use Rattle.laws.proofs.Tables.{Bounded, bounded_parts}
use Rattle.laws.specs.Table.{refusal_at, Row, row, first_of, is_refusal}
use Rattle.notices.specs.Notices.{count_of}
use Rattle.notices.specs.Profiles.{figures_of}
use Rattle.notices.specs.declared.profiles.Profile.TheVariants.{Credit}
use Rattle.refusals.proofs.RuleNumbers.{number_range}
use Rattle.refusals.specs.Refusals.{rule_number, at, verdict_paper}
use Rattle.refusals.specs.declared.rule.Rule.{Rule}
use Rattle.std.specs.Prelude.{Err, ⊤}
use Rattle.schedule.proofs.Accepted.{Lawful, whole_test, notices_lawful, lawful_notices}
use Rattle.schedule.proofs.Bounds.{notices_bounded}
use Rattle.schedule.proofs.RuleLaws.{checked_notices}
use Rattle.schedule.proofs.Walk.{notices_numbered}
use Rattle.schedule.specs.ListCheck.{notices_table, bad_list, checked_in}
use Rattle.settlement.specs.Lines.{line_numbers}
use Rattle.settlement.specs.Refusals.{short_output, own_rows, call_rows, energies_table, refusal_of}
use Rattle.settlement.proofs.CallLaws.{RightCall, call_numbered, none_right, right_none, call_right, rows_bounded}

module _ (w readings : ℕ) (l : List ℕ) (room : ℕ) where
  abbrev call : List Row
  call = call_rows w readings (length l) room

  abbrev notices : List Row
  notices = notices_table (winter_of w) (figures_of Credit) l

  pub table_numbered : Numbered (energies_table w readings l room)
  unfolding energies_table
  table_numbered =
      let own = call_numbered w readings (length l) room in
      joined (λ (r : Row). 1 ≤ r.number) call notices own (notices_numbered (winter_of w) (figures_of Credit) l)

  -- past a call's own rows those of the notices decide
  pub right_refusal : RightCall w readings (length l) room → first_of notices ≡ refusal_of w readings l room
  unfolding refusal_of energies_table
  right_refusal right = part_goes call notices (right_none w readings (length l) room right)

  -- a call's refusal decides, else that of the notices
  module _ (number : ℕ) (e : refusal_at number 0 ≡ first_of call) where
    pub refusal_call : (number ≡ 0 → ⊥) → refusal_at number 0 ≡ refusal_of w readings l room
    unfolding refusal_of energies_table
    refusal_call f = told_stops call number e notices f

    pub call_is_right : number ≡ 0 → RightCall w readings (length l) room
    call_is_right z = call_right w readings (length l) room (rw (← e, z))

    -- in a winter, by its facts
    pub refusal_notices : number ≡ 0 → checked_in (winter_of w) Credit l ≡ refusal_of w readings l room
    refusal_notices z =
        let right = call_is_right z in
        checked_notices w Credit l (whole_test (length l) right.whole right.few) ∙ right_refusal right

  -- a rule that refuses the call is the refusal, with place 0
  pub call_refuses : (rule : Rule) → refusal_at (rule_number rule) 0 ≡ first_of call → verdict_paper {A = ⊤} (Err (at rule 0)) ≡ refusal_of w readings l room
  call_refuses rule e = let some = number_range rule in refusal_call (rule_number rule) e (λ (z : rule_number rule ≡ 0). omega arith)

  -- what is not refused: the call is right, and the list keeps every rule of the winter credit
  module _ (e : is_refusal (refusal_of w readings l room) ≡ false) where
    none_broken : NoneBroken (call ++ notices)
    unfolding refusal_of energies_table
    none_broken = unrefused_none (call ++ notices) table_numbered e

    pub unrefused_right : RightCall w readings (length l) room
    unrefused_right = none_right w readings (length l) room (left (λ (r : Row). r.broken ≡ false) call notices none_broken)

    pub list_lawful : Lawful w (figures_of Credit) l
    list_lawful =
        let s = unrefused_right in
        notices_lawful w (figures_of Credit) l ((winter_range w).1 s.winter) (whole_test (length l) s.whole s.few)
        (right (λ (r : Row). r.broken ≡ false) call notices none_broken)

  -- and the other way round
  pub right_accepted : RightCall w readings (length l) room → Lawful w (figures_of Credit) l → is_refusal (refusal_of w readings l room) ≡ false
  unfolding refusal_of energies_table
  right_accepted s r =
      ap is_refusal
      (none_accepted (call ++ notices)
      (joined (λ (r : Row). r.broken ≡ false) call notices (right_none w readings (length l) room s) (lawful_notices w (figures_of Credit) l r)))

-- numbers and places are bounded
pub refusal_bounded : (w readings : ℕ) (l : List ℕ) (room : ℕ) → Bounded (refusal_of w readings l room)
unfolding refusal_of energies_table
refusal_bounded w readings l room =
    bounded_parts (call w readings l room) (notices w readings l room) (rows_bounded w readings (length l) room)
    (λ none. let s = none_right w readings (length l) room none in
    notices_bounded w (figures_of Credit) l (whole_test (length l) s.whole s.few))

-- with room enough: the book's rows, the list's length and the notices decide
pub refusal_enough : (w readings : ℕ) (l : List ℕ) (room : ℕ) → line_numbers * count_of l ≤ room
    → refusal_of w readings l room ≡ first_of (book_rows w readings ++ (row 4 0 (bad_list (length l)) ∷ notices_table (winter_of w) (figures_of Credit) l))
unfolding refusal_of energies_table call_rows short_output
refusal_enough w readings l room h =
    let rows = notices_table (winter_of w) (figures_of Credit) l in
    ap first_of (append_assoc (book_rows w readings) (own_rows (length l) room) rows)
    ∙ sym (parts_alike (book_rows w readings) (row 4 0 (bad_list (length l)) ∷ rows) (own_rows (length l) room ++ rows)
    (parts_alike (row 4 0 (bad_list (length l)) ∷ []) rows (row 6 0 (ltb room (line_numbers * count_of l)) ∷ rows)
    (row_goes _ _ (le-ltb room (line_numbers * count_of l) h) refl)))

-- of the output's length only its room for the lines counts
pub refusal_room : (w readings : ℕ) (l : List ℕ) (a b : ℕ) → line_numbers * count_of l ≤ a → line_numbers * count_of l ≤ b
    → refusal_of w readings l a ≡ refusal_of w readings l b
unfolding refusal_of energies_table call_rows short_output
refusal_room w readings l a b ha hb = rw (le-ltb a (line_numbers * count_of l) ha, le-ltb b (line_numbers * count_of l) hb)
