-- Laws of the refusals: which part of the table decides, what is known of a settlement that is not refused, and the other way round; bounds of
-- what is refused.
-- Assumes nothing.
use Prim.Native.Nat.{ℕ, ◌*◌, ◌≤◌}
use mathlib.Core.Bool.{true, false}
use mathlib.Core.List.{List, ◌++◌}
use mathlib.Core.Path.{◌≡◌, sym, ap, ◌∙◌}
use native.Mathlib.Omega.{arith}
use lib.ListN.{length}
use borrow.Author.Tests.{le-ltb}
use Rattle.book.specs.Length.{book_length}
use Rattle.calendar.specs.WinterOf.{winter_of}
use Rattle.dates.proofs.Promise.{winter_range}
use Rattle.dates.specs.Winters.{days}
use Rattle.laws.proofs.Every.{left, right, joined}
use Rattle.laws.proofs.Tables.{Numbered, NoneBroken, unrefused_none, none_accepted, part_stops, part_goes, told_stops, Bounded, bounded_parts}
use Rattle.laws.specs.Answer.{Answer}
use Rattle.laws.specs.Table.{refusal_at, Row, first_of, is_refusal}
use Rattle.notices.specs.Notices.{count_of}
use Rattle.notices.specs.Profiles.{figures_of}
use Rattle.notices.specs.declared.profiles.Profile.TheVariants.{PowerOption}
use Rattle.refusals.proofs.RuleNumbers.{number_range}
use Rattle.refusals.specs.Refusals.{rule_number, at, verdict_paper}
use Rattle.refusals.specs.declared.rule.Rule.{Rule}
use Rattle.std.specs.Prelude.{Err, ⊤}
use Rattle.schedule.proofs.Accepted.{Lawful, whole_test, notices_lawful, lawful_notices}
use Rattle.schedule.proofs.Bounds.{notices_bounded}
use Rattle.schedule.proofs.RuleLaws.{checked_notices}
use Rattle.schedule.proofs.Walk.{notices_numbered}
use Rattle.schedule.specs.ListCheck.{notices_table, checked_in}
use Rattle.power.specs.Lines.{power_line_numbers}
use Rattle.power.specs.Refusals.{total_numbers, short_room, power_call_rows, references_table, power_table, power_refusal}
use Rattle.power.proofs.CallLaws.{RightPower, call_numbered, call_none_right, call_right_none, rows_bounded}
use Rattle.power.proofs.ReferenceLaws.{AllLow, references_numbered, none_low, low_none, references_bounded}

-- all that a settlement asks: the call's own rules, low references, and rule 10.3's list
pub record PowerSettles (w readings : ℕ) (l references : List ℕ) (room totals : ℕ) : Type 0 where
  pub book : readings ≡ book_length (days w)
  pub list : Lawful w (figures_of PowerOption) l
  pub room_enough : power_line_numbers * count_of l ≤ room
  pub totals_for : total_numbers ≤ totals
  pub as_many : length references ≡ count_of l
  pub low : AllLow references

module _ (w readings : ℕ) (l references : List ℕ) (room totals : ℕ) where
  abbrev call : List Row
  call = power_call_rows w readings (length l) room totals (length references)

  abbrev references_part : List Row
  references_part = references_table references

  abbrev notices : List Row
  notices = notices_table (winter_of w) (figures_of PowerOption) l

  pub table_numbered : Numbered (power_table w readings l references room totals)
  unfolding power_table
  table_numbered =
      joined (λ (r : Row). 1 ≤ r.number) call (references_part ++ notices) (call_numbered w readings (length l) room totals (length references))
      (joined (λ (r : Row). 1 ≤ r.number) references_part notices (references_numbered references) (notices_numbered (winter_of w) (figures_of PowerOption) l))

  -- which part decides: the call's own rows, else the references, else the notices
  module _ (number : ℕ) (e : refusal_at number 0 ≡ first_of call) where
    pub by_call : (number ≡ 0 → ⊥) → refusal_at number 0 ≡ power_refusal w readings l references room totals
    unfolding power_refusal power_table
    by_call f = told_stops call number e (references_part ++ notices) f

    module _ (z : number ≡ 0) where
      own_none : NoneBroken call
      own_none = unrefused_none call (call_numbered w readings (length l) room totals (length references)) (rw (← e, z))

      pub call_is_right : RightPower w readings (length l) room totals (length references)
      call_is_right = call_none_right w readings (length l) room totals (length references) own_none

      module _ {a : Answer} (told : a ≡ first_of references_part) where
        pub by_reference : is_refusal a ≡ true → a ≡ power_refusal w readings l references room totals
        unfolding power_refusal power_table
        by_reference t =
            told ∙ part_stops references_part notices (ap is_refusal (sym told) ∙ t) ∙ part_goes call (references_part ++ notices) own_none

        pub by_notices : is_refusal a ≡ false → checked_in (winter_of w) PowerOption l ≡ power_refusal w readings l references room totals
        unfolding power_refusal power_table
        by_notices t =
            checked_notices w PowerOption l (whole_test (length l) call_is_right.whole call_is_right.few)
            ∙ part_goes references_part notices (unrefused_none references_part (references_numbered references) (ap is_refusal (sym told) ∙ t))
            ∙ part_goes call (references_part ++ notices) own_none

  -- a rule that refuses the call is the refusal, with place 0
  pub call_refuses : (rule : Rule) → refusal_at (rule_number rule) 0 ≡ first_of call
      → verdict_paper {A = ⊤} (Err (at rule 0)) ≡ power_refusal w readings l references room totals
  call_refuses rule e = let some = number_range rule in by_call (rule_number rule) e (λ (z : rule_number rule ≡ 0). omega arith)

  -- a settlement that is not refused, and the other way round
  pub unrefused_settles : is_refusal (power_refusal w readings l references room totals) ≡ false → PowerSettles w readings l references room totals
  unfolding power_refusal power_table
  unrefused_settles e =
      let none = unrefused_none (call ++ (references_part ++ notices)) table_numbered e in
      let own = call_none_right w readings (length l) room totals (length references)
      (left (λ (r : Row). r.broken ≡ false) call (references_part ++ notices) none) in
      let rest = right (λ (r : Row). r.broken ≡ false) call (references_part ++ notices) none in
      record {
        book = own.book;
        list = notices_lawful w (figures_of PowerOption) l ((winter_range w).1 own.winter) (whole_test (length l) own.whole own.few)
            (right (λ (r : Row). r.broken ≡ false) references_part notices rest);
        room_enough = own.room_enough;
        totals_for = own.totals_for;
        as_many = own.as_many;
        low = none_low references (left (λ (r : Row). r.broken ≡ false) references_part notices rest);
      }

  pub settles_unrefused : PowerSettles w readings l references room totals → is_refusal (power_refusal w readings l references room totals) ≡ false
  unfolding power_refusal power_table
  settles_unrefused s =
      let r = s.list in
      let own : RightPower w readings (length l) room totals (length references) = record {
        winter = r.winter;
        book = s.book;
        whole = r.whole;
        few = r.few;
        room_enough = s.room_enough;
        totals_for = s.totals_for;
        as_many = s.as_many;
      } in
      ap is_refusal
      (none_accepted (call ++ (references_part ++ notices))
      (joined (λ (r : Row). r.broken ≡ false) call (references_part ++ notices)
      (call_right_none w readings (length l) room totals (length references) own)
      (joined (λ (r : Row). r.broken ≡ false) references_part notices (low_none references s.low) (lawful_notices w (figures_of PowerOption) l r))))

  -- numbers and places are bounded
  pub refusal_bounded : Bounded (power_refusal w readings l references room totals)
  unfolding power_refusal power_table
  refusal_bounded =
      bounded_parts call (references_part ++ notices) (rows_bounded w readings (length l) room totals (length references))
      (λ none. let s = call_none_right w readings (length l) room totals (length references) none in
      bounded_parts references_part notices (references_bounded references (omega (arith, s.few, s.as_many)))
      (λ low. notices_bounded w (figures_of PowerOption) l (whole_test (length l) s.whole s.few)))

-- of the rooms only that they are large enough counts
pub refusal_room : (w readings : ℕ) (l references : List ℕ) (a b s t : ℕ) → power_line_numbers * count_of l ≤ a → power_line_numbers * count_of l ≤ b
    → total_numbers ≤ s → total_numbers ≤ t → power_refusal w readings l references a s ≡ power_refusal w readings l references b t
unfolding power_refusal power_table power_call_rows short_room
refusal_room w readings l references a b s t ha hb hs ht =
    rw (le-ltb a (power_line_numbers * count_of l) ha, le-ltb b (power_line_numbers * count_of l) hb, le-ltb s total_numbers hs, le-ltb t total_numbers ht)
