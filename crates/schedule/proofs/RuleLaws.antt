-- Laws of the rules of a notice's day, and of the profile that a number names: one for each way out.
-- Assumes nothing.
use Prim.Native.Nat.{ℕ}
use mathlib.Core.Bool.{Bool, true, false, cond, not, ◌&&◌, true≢false}
use mathlib.Core.List.{List, ◌∷◌}
use mathlib.Core.Logic.{inl, inr}
use mathlib.Core.Path.{◌≡◌, refl, sym, ap, ◌∙◌}
use lib.ListN.{length}
use borrow.Author.Tests.{not-false}
use Rattle.calendar.proofs.Answered.{kind_in, kind_is, day_known, no_day_known}
use Rattle.calendar.proofs.Promise.{facts_right, past_period}
use Rattle.calendar.specs.Answers.{kind_paper, day_kind}
use Rattle.calendar.specs.Days.{wrong_winter, no_day, in_period}
use Rattle.calendar.specs.Weekdays.{weekend}
use Rattle.calendar.specs.WinterOf.{winter_of}
use Rattle.calendar.specs.declared.answers.Kind.{Kind}
use Rattle.calendar.specs.declared.answers.Winter.{Winter}
use Rattle.dates.specs.declared.answers.DateError.TheVariants.{NoWinter, NoDay}
use Rattle.dates.specs.declared.answers.DateError.{DateError}
use Rattle.laws.proofs.Tables.{row_goes}
use Rattle.laws.specs.Answer.{Answer}
use Rattle.laws.specs.Table.{row, first_of}
use Rattle.notices.specs.Profiles.{figures_of, named}
use Rattle.notices.specs.declared.notices.Notice.{Notice}
use Rattle.notices.specs.declared.profiles.Figures.{Figures}
use Rattle.notices.specs.declared.profiles.Profile.{Profile}
use Rattle.refusals.specs.declared.rule.Rule.{Rule}
use Rattle.std.specs.Prelude.{Ok, Err, Result}
use Rattle.schedule.specs.ListCheck.{notices_table, bad_list, no_profile, named_figures, checked_in}
use Rattle.schedule.specs.Rules.{outside_period, on_excluded_day, barred_weekend}

-- the rules of the day that a notice is on, by what is told of it
module _ (w : Winter) (n : Notice) (r : Result Kind DateError) (right : wrong_winter w ≡ false) (told : kind_paper r ≡ day_kind w n.day) where
  -- a day past the book is in no winter period
  pub past_the_book : (e : DateError) → r ≡ Err e → outside_period w n ≡ true
  unfolding outside_period
  past_the_book NoWinter q = rw (past_period w n.day (no_day_known w n.day r (inr q) right told))
  past_the_book NoDay q = rw (past_period w n.day (no_day_known w n.day r (inl q) right told))

  -- a day of the period is in the book
  pub in_the_book : in_period w n.day ≡ true → r ≡ Ok (kind_in w n.day)
  in_the_book i = either (no_day w n.day) refl (kind_is w n.day r right told)
    where
      either : (b : Bool) → no_day w n.day ≡ b → r ≡ cond b (Err NoDay) (Ok (kind_in w n.day)) → r ≡ Ok (kind_in w n.day)
      either true e q = absurd (true≢false (sym i ∙ past_period w n.day e))
      either false e q = q

  module _ (day : Kind) (is : r ≡ Ok day) where
    pub outside_on : {b : Bool} → not day.period ≡ b → outside_period w n ≡ b
    unfolding outside_period
    outside_on e = rw (day_known w n.day r day is right told).1 at e

    pub excluded_on : {b : Bool} → day.excluded ≡ b → on_excluded_day w n ≡ b
    unfolding on_excluded_day
    excluded_on e = rw (day_known w n.day r day is right told).1 at e

    pub in_period_lem : not day.period ≡ false → in_period w n.day ≡ true
    in_period_lem e = rw (day_known w n.day r day is right told).1 at (not-false day.period e)

-- 12, asked only where the profile has no weekends
pub weekend_barred : (f : Figures) (w : Winter) (n : Notice) {b : Bool} → b ≡ (not f.weekends && weekend w n.day) → b ≡ barred_weekend f w n
unfolding barred_weekend
weekend_barred f w n e = e

-- 5, by the profile that a number names
pub no_profile_lem : (q : ℕ) (x : Result Profile Rule) (rule : Rule) → x ≡ named q → x ≡ Err rule → no_profile (named q) ≡ true
no_profile_lem q x rule e n = rw (← e, n)

-- for a winter's own facts row 1 of the check by these is kept
pub checked_right : (y : ℕ) (p : Profile) (l : List ℕ)
    → checked_in (winter_of y) p l ≡ first_of (row 4 0 (bad_list (length l)) ∷ notices_table (winter_of y) (figures_of p) l)
unfolding checked_in
checked_right y p l = sym (row_goes _ _ (facts_right y) refl)

-- past row 4 the notices decide
pub checked_notices : (y : ℕ) (p : Profile) (l : List ℕ) → bad_list (length l) ≡ false
    → checked_in (winter_of y) p l ≡ first_of (notices_table (winter_of y) (figures_of p) l)
checked_notices y p l e = checked_right y p l ∙ sym (row_goes _ _ e refl)

-- so the check by a profile that is named and by a winter's facts is past row 1 the check by their numbers
pub of_profile : (y q : ℕ) (l : List ℕ) (x : Result Profile Rule) (p : Profile) (w : Winter) {a : Answer}
    → x ≡ named q → x ≡ Ok p → w ≡ winter_of y → a ≡ checked_in w p l
    → a
    ≡ first_of
    (row 5 0 (no_profile (named q)) ∷ row 4 0 (bad_list (length l)) ∷ notices_table (winter_of y) (named_figures (named q)) l)
of_profile y q l x p w e n g r = rw (← e, n) (row_goes _ _ refl (r ∙ ap (λ (v : Winter). checked_in v p l) g ∙ checked_right y p l))
