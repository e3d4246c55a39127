-- Laws of a notice's rows: it is accepted exactly when none is broken, what one that is not refused has passed, that its hours fit, and its day's
-- rules before the others.
-- Assumes nothing.
use Prim.Native.Nat.{ℕ, ◌+◌, ◌≤◌}
use mathlib.Core.Bool.{false}
use mathlib.Core.List.{List, ◌∷◌}
use mathlib.Core.Path.{◌≡◌, ap, sym, ◌∙◌}
use native.Mathlib.Omega.{arith}
use borrow.Author.Tests.{ltb-false}
use Rattle.calendar.specs.declared.answers.Winter.{Winter}
use Rattle.laws.proofs.Every.{left, right, joined}
use Rattle.laws.proofs.Tables.{Numbered, NoneBroken, accepted_none, unrefused_none, part_stops, part_goes, row_stops, row_goes, rows_end}
use Rattle.laws.specs.Answer.{Answer}
use Rattle.laws.specs.Table.{Row, row, first_of, is_refusal}
use Rattle.notices.proofs.HourLaws.{hours_kept}
use Rattle.notices.specs.Hours.{bad_hours, bad_length}
use Rattle.notices.specs.HoursVerdict.{hour_rows}
use Rattle.notices.specs.Notices.{hours_of}
use Rattle.notices.specs.Sane.{most_hours, Sane}
use Rattle.notices.specs.declared.notices.Notice.{Notice}
use Rattle.notices.specs.declared.profiles.Figures.{Figures}
use Rattle.refusals.proofs.RuleNumbers.{refused_is}
use Rattle.refusals.specs.Refusals.{rule_paper}
use Rattle.refusals.specs.declared.rule.Rule.{Rule}
use Rattle.std.specs.Prelude.{⊤, Ok, Err, Result}
use Rattle.schedule.specs.ListCheck.{day_rows, list_rows, hours_on_rows, notice_rows}
use Rattle.schedule.specs.Rules.{outside_period, on_excluded_day, barred_weekend, starts_before, same_band, over_limit}
use Rattle.schedule.specs.declared.rules.Sofar.{Sofar}

abbrev Kept : Row → Type 0
Kept r = r.broken ≡ false

-- the rows of a notice from its length on
abbrev length_on : Figures → Sofar → Notice → ℕ → List Row
length_on f so n k = row 14 k (bad_length f n) ∷ list_rows f so n k

day_numbered : (w : Winter) (f : Figures) (n : Notice) (k : ℕ) → Numbered (day_rows w f n k)
unfolding day_rows
day_numbered w f n k = omega arith

pub notice_numbered : (w : Winter) (f : Figures) (so : Sofar) (n : Notice) (k : ℕ) → Numbered (notice_rows w f so n k)
unfolding notice_rows day_rows list_rows
notice_numbered w f so n k = omega arith

-- the rules that a notice has passed, by name
pub record Passed (w : Winter) (f : Figures) (so : Sofar) (n : Notice) : Type 0 where
  pub period : outside_period w n ≡ false
  pub open_day : on_excluded_day w n ≡ false
  pub week : barred_weekend f w n ≡ false
  pub hours : bad_hours f n ≡ false
  pub long : bad_length f n ≡ false
  pub order : starts_before so.event n ≡ false
  pub apart : same_band f so.event n ≡ false
  pub limit : over_limit f so n ≡ false

module _ (w : Winter) (f : Figures) (so : Sofar) (n : Notice) where
  pub none_passed : (k : ℕ) → NoneBroken (notice_rows w f so n k) → Passed w f so n
  unfolding notice_rows day_rows list_rows
  none_passed k t =
      let hours_on = t.1.1.1 in
      let length_on_lem = right Kept (hour_rows f n k) (length_on f so n k) hours_on in
      record {
        period = t.0;
        open_day = t.1.0;
        week = t.1.1.0;
        hours = (hours_kept f n k).0 (left Kept (hour_rows f n k) (length_on f so n k) hours_on);
        long = length_on_lem.0;
        order = length_on_lem.1.0;
        apart = length_on_lem.1.1.0;
        limit = length_on_lem.1.1.1.0;
      }

  pub passed_none : (k : ℕ) → Passed w f so n → NoneBroken (notice_rows w f so n k)
  unfolding notice_rows day_rows list_rows
  passed_none k t =
      let hours_on = joined Kept (hour_rows f n k) (length_on f so n k) ((hours_kept f n k).1 t.hours) (t.long, (t.order, (t.apart, (t.limit, tt)))) in
      (t.period, (t.open_day, (t.week, hours_on)))

  pub passed : (k : ℕ) → is_refusal (first_of (notice_rows w f so n k)) ≡ false → Passed w f so n
  passed k e = none_passed k (unrefused_none (notice_rows w f so n k) (notice_numbered w f so n k) e)

-- the sum of a notice that is not refused fits

module _ (w : Winter) (f : Figures) (so : Sofar) (n : Notice) (ok : Sane f) (t : Passed w f so n) where
  pub sum_fits : so.hours + hours_of n ≤ most_hours
  unfolding over_limit
  sum_fits = omega (arith, ltb-false f.hours (so.hours + hours_of n) t.limit, ok.hours)

-- the parts of a notice's rows: its day's first, then those of its hours, then its length and those of the list

module _ (w : Winter) (f : Figures) (so : Sofar) (n : Notice) (k : ℕ) {v : Result ⊤ Rule} (day : rule_paper v k ≡ first_of (day_rows w f n k)) where
  pub day_stops : (rule : Rule) → v ≡ Err rule → rule_paper v k ≡ first_of (notice_rows w f so n k)
  unfolding notice_rows
  day_stops rule e = day ∙ part_stops (day_rows w f n k) (hours_on_rows f so n k) (ap is_refusal (sym day) ∙ rw e (refused_is rule k))

  pub day_goes : v ≡ Ok tt → {a : Answer} → a ≡ first_of (hours_on_rows f so n k) → a ≡ first_of (notice_rows w f so n k)
  unfolding notice_rows
  day_goes e q =
      q ∙ part_goes (day_rows w f n k) (hours_on_rows f so n k)
      (accepted_none (day_rows w f n k) (day_numbered w f n k) (sym day ∙ ap (λ (v : Result ⊤ Rule). rule_paper v k) e))

-- a table row by row
pub ruleset row_by_row = (row_stops, row_goes, rows_end)
