-- Laws of the walk over the notices: one law for each way out of the loop and for a turn.
-- The invariant: what stands before notice k is what the list has before it, and no notice before it is refused.
-- Assumes nothing.
use Prim.Native.Nat.{ℕ, zero, suc, ◌+◌, ◌%◌, ◌≤◌, ◌<◌}
use mathlib.Core.Bool.{false, not}
use mathlib.Core.List.{List}
use mathlib.Core.Path.{◌≡◌, refl, sym, ap, ◌∙◌}
use native.Mathlib.Numerals.{add-one}
use native.Mathlib.Omega.{arith}
use lib.Dec.{ltb, eqb}
use borrow.Author.Tests.{ltb-false, eqb-true, not-false}
use Rattle.calendar.specs.declared.answers.Winter.{Winter}
use Rattle.laws.proofs.Guards.{neither}
use Rattle.laws.proofs.Tables.{Numbered}
use Rattle.laws.proofs.Walks.{Walked, walk_numbered, walked_none, walked_next, walked_stop, walked_all}
use Rattle.laws.specs.Rows.{rows_to}
use Rattle.laws.specs.Table.{accepted, first_of, is_refusal}
use Rattle.notices.proofs.HourLaws.{hours_fit}
use Rattle.notices.proofs.NoticeLaws.{none_is, hours_none, hours_next}
use Rattle.notices.specs.Notices.{notice_numbers, most_notices, longest_list, count_in, count_of, no_notice, notice_at, hours_to}
use Rattle.notices.specs.Sane.{most_hours, Sane}
use Rattle.notices.specs.declared.notices.Notice.{Notice}
use Rattle.notices.specs.declared.profiles.Figures.{Figures}
use Rattle.refusals.proofs.RuleNumbers.{refused_is}
use Rattle.refusals.specs.Refusals.{rule_paper}
use Rattle.refusals.specs.declared.rule.Rule.{Rule}
use Rattle.std.specs.Prelude.{⊤, Ok, Err, Result}
use Rattle.schedule.specs.ListCheck.{notice_rows, nothing_before, after_notice, sofar_at, rows_at, notices_table, bad_list}
use Rattle.schedule.specs.Walkable.{HoursFit}
use Rattle.schedule.specs.declared.rules.Sofar.{Sofar}
use Rattle.schedule.proofs.NoticeRows.{Passed, notice_numbered, passed, sum_fits}

pub rows_numbered : (w : Winter) (f : Figures) (l : List ℕ) (k : ℕ) → Numbered (rows_at w f l k)
unfolding rows_at
rows_numbered w f l k = notice_numbered w f (sofar_at l k) (notice_at l k) k

pub notices_numbered : (w : Winter) (f : Figures) (l : List ℕ) → Numbered (notices_table w f l)
notices_numbered w f l = walk_numbered (rows_at w f l) (rows_numbered w f l) (count_of l)

-- what stands before a notice: the hours are those of the notices before it, and the last event is the notice before it
pub sofar_hours : (l : List ℕ) (k : ℕ) → (sofar_at l k).hours ≡ hours_to l k
unfolding sofar_at after_notice
sofar_hours l zero = sym (hours_none l)
sofar_hours l (suc k) = rw (sofar_hours l k) (sym (hours_next l k))

pub sofar_none : (l : List ℕ) → sofar_at l 0 ≡ nothing_before
unfolding sofar_at
sofar_none l = refl

pub sofar_event : (l : List ℕ) (k : ℕ) → (sofar_at l (suc k)).event ≡ notice_at l k
unfolding sofar_at after_notice
sofar_event l k = refl

sofar_next : (l : List ℕ) (k : ℕ) → after_notice (sofar_at l k) (notice_at l k) ≡ sofar_at l (k + 1)
unfolding sofar_at
sofar_next l k = rw (add-one k) refl

pub nothing_is : (event : Notice) (hours : ℕ) → ((event.day ≡ 0) × ((event.start ≡ 0) × (event.end ≡ 0))) × (hours ≡ 0)
    → record { event = event; hours = hours } ≡ nothing_before
nothing_is event hours p = let e : event ≡ no_notice = none_is _ _ _ p.0 in rw (e, p.1)

-- the loop, over plain variables: before notice k

pub record WalkedTo (w : Winter) (f : Figures) (l : List ℕ) (n : ℕ) (so : Sofar) (k : ℕ) : Type 0 where
  pub small : so.hours ≤ most_hours
  pub same : so ≡ sofar_at l k
  pub walked : Walked (rows_at w f l) n k

pub walk_start : (w : Winter) (f : Figures) (l : List ℕ) (n : ℕ) (so : Sofar) → so ≡ nothing_before → WalkedTo w f l n so 0
unfolding sofar_at
walk_start w f l n so e = record { small = rw e (omega arith); same = e; walked = walked_none }

module _ {w : Winter} {f : Figures} {l : List ℕ} {n : ℕ} {so : Sofar} {k : ℕ} (h : WalkedTo w f l n so k) where
  pub walk_done : n ≤ k → accepted ≡ first_of (rows_to (rows_at w f l) n)
  walk_done = walked_all h.walked

  module _ {m : Notice} (v : Result ⊤ Rule) (at : m ≡ notice_at l k) (said : (k : ℕ) → rule_paper v k ≡ first_of (notice_rows w f so m k)) where
    answer_is : rule_paper v k ≡ first_of (rows_at w f l k)
    unfolding rows_at
    answer_is = said k ∙ rw (h.same, at)

    pub walk_stop : (rule : Rule) → k < n → v ≡ Err rule → rule_paper v k ≡ first_of (rows_to (rows_at w f l) n)
    walk_stop rule e q = walked_stop h.walked answer_is e (rw q (refused_is rule k))

    module _ (ok : Sane f) (kept : v ≡ Ok tt) where
      unrefused : is_refusal (rule_paper v k) ≡ false
      unrefused = rw kept

      passed_here : Passed w f so m
      passed_here = passed w f so m k (ap is_refusal (sym (said k)) ∙ unrefused)

      pub walk_fits : HoursFit so m
      walk_fits = record { sofar = h.small; notice = hours_fit f m ok passed_here.long }

      pub walk_next : {next : Sofar} → k < n → next ≡ after_notice so m → WalkedTo w f l n next (k + 1)
      unfolding after_notice
      walk_next {next} e q =
          record {
            small = rw q (sum_fits w f so m ok passed_here);
            same = q ∙ rw (h.same, at) (sofar_next l k);
            walked = walked_next h.walked answer_is e (rows_numbered w f l k) unrefused;
          }

-- a list that is not bad has whole notices, and not too many
pub record WholeList (numbers : ℕ) : Type 0 where
  pub whole : numbers % notice_numbers ≡ 0
  pub few : count_in numbers ≤ most_notices

pub list_fits : (n : ℕ) → bad_list n ≡ false → WholeList n
unfolding bad_list
list_fits n e =
    let p = neither (not (eqb (n % notice_numbers) 0)) (ltb longest_list n) e in
    let a : n ≤ longest_list = ltb-false longest_list n p.1 in
    record { whole = eqb-true (n % notice_numbers) 0 (not-false (eqb (n % notice_numbers) 0) p.0); few = omega arith }
