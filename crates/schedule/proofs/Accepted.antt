-- Demand 2, both directions: a list is accepted under a profile exactly when it is lawful by the profile's figures, since every row of the table
-- is kept exactly when the list is lawful; and what is answered is told by the table.
-- Assumes nothing.
use Prim.Native.Nat.{ℕ, suc, ◌%◌, ◌≤◌, ◌<◌}
use mathlib.Core.Bool.{false}
use mathlib.Core.List.{List}
use mathlib.Core.Logic.{◌↔◌}
use mathlib.Core.Path.{◌≡◌, refl, sym}
use native.Mathlib.Omega.{arith}
use lib.ListN.{length}
use borrow.Author.Tests.{eq-eqb, le-ltb}
use Rattle.calendar.specs.WinterOf.{winter_of}
use Rattle.dates.proofs.Promise.{winter_range}
use Rattle.dates.specs.Winters.{no_winter}
use Rattle.laws.proofs.Tables.{Numbered, NoneBroken, accepted_none, none_accepted, unrefused_accepted, row_goes}
use Rattle.laws.proofs.Tells.{Tells, place_in, table_tells}
use Rattle.laws.specs.Table.{accepted, is_refusal}
use Rattle.notices.proofs.ProfileLaws.{named_number}
use Rattle.notices.specs.Notices.{notice_numbers, most_notices, longest_list, count_in, count_of, notice_at, hours_to}
use Rattle.notices.specs.Profiles.{figures_of, profile_number, named}
use Rattle.notices.specs.declared.profiles.Figures.{Figures}
use Rattle.notices.specs.declared.profiles.Profile.TheVariants.{Credit}
use Rattle.notices.specs.declared.profiles.Profile.{Profile}
use Rattle.schedule.specs.ListCheck.{sofar_at, notices_table, bad_list, no_profile, named_figures, check_table, check_answer, checked_in}
use Rattle.schedule.proofs.Lawful.{Sound, Follows}
use Rattle.schedule.proofs.PassedAll.{passed_sound, all_hours, follows_at, passed_at, all_passed, passed_all}
use Rattle.schedule.proofs.RuleLaws.{checked_right}
use Rattle.schedule.proofs.Walk.{notices_numbered, list_fits}

-- a list that keeps every rule: every notice by itself, every notice against the one before it, and the hours together
pub record Lawful (w : ℕ) (f : Figures) (l : List ℕ) : Type 0 where
  pub winter : (2010 ≤ w) × (w ≤ 2098)
  pub whole : length l % notice_numbers ≡ 0
  pub few : count_of l ≤ most_notices
  pub each : (k : ℕ) → k < count_of l → Sound w f (notice_at l k)
  pub follows : (k : ℕ) → suc k < count_of l → Follows f (notice_at l k) (notice_at l (suc k))
  pub hours : hours_to l (count_of l) ≤ f.hours

-- a list of whole notices, and not too many, is not bad

pub whole_test : (n : ℕ) → n % notice_numbers ≡ 0 → count_in n ≤ most_notices → bad_list n ≡ false
unfolding bad_list
whole_test n a b = rw (eq-eqb (n % notice_numbers) 0 a) (le-ltb longest_list n (omega arith))

-- no row of the table is broken exactly when the list is lawful

module _ (w : ℕ) (f : Figures) (l : List ℕ) where
  pub notices_lawful : no_winter w ≡ false → bad_list (length l) ≡ false → NoneBroken (notices_table (winter_of w) f l) → Lawful w f l
  notices_lawful v b none =
      let fits = list_fits (length l) b in
      let t = all_passed w f l none in
      record {
        winter = (winter_range w).0 v;
        whole = fits.whole;
        few = fits.few;
        each = λ k h. passed_sound w f (sofar_at l k) (notice_at l k) (t k h);
        follows = λ k h. follows_at w f l k (t (suc k) h);
        hours = all_hours w f l (count_of l) t;
      }

  pub lawful_notices : Lawful w f l → NoneBroken (notices_table (winter_of w) f l)
  lawful_notices r = passed_all w f l (passed_at w f l (count_of l) r.each r.follows r.hours)

-- what is kept where no row of the table is broken
pub record Clear (w q : ℕ) (l : List ℕ) : Type 0 where
  pub winter : no_winter w ≡ false
  pub profile : no_profile (named q) ≡ false
  pub list : bad_list (length l) ≡ false
  pub notices : NoneBroken (notices_table (winter_of w) (named_figures (named q)) l)

module _ (w q : ℕ) (l : List ℕ) where
  check_numbered : Numbered (check_table w q l)
  unfolding check_table
  check_numbered = (omega arith, (omega arith, (omega arith, notices_numbered (winter_of w) (named_figures (named q)) l)))

  pub check_clear : check_answer w q l ≡ accepted → Clear w q l
  unfolding check_answer check_table
  check_clear e =
      let none = accepted_none (check_table w q l) check_numbered e in
      record { winter = none.0; profile = none.1.0; list = none.1.1.0; notices = none.1.1.1 }

  clear_check : Clear w q l → check_answer w q l ≡ accepted
  unfolding check_answer check_table
  clear_check c = none_accepted (check_table w q l) (c.winter, (c.profile, (c.list, c.notices)))

  -- whatever is answered, number and place are told by the table
  pub check_tells : Tells (check_table w q l) (check_answer w q l).number (place_in (check_answer w q l))
  unfolding check_answer
  check_tells = table_tells (check_table w q l) check_numbered (check_answer w q l) refl

  -- a list that is not refused is accepted
  pub check_accepted : is_refusal (check_answer w q l) ≡ false → check_answer w q l ≡ accepted
  unfolding check_answer
  check_accepted = unrefused_accepted (check_table w q l) check_numbered

-- in a winter the check under profile 1 is that by the winter's facts
pub check_credit : (y : ℕ) (l : List ℕ) → no_winter y ≡ false → check_answer y 1 l ≡ checked_in (winter_of y) Credit l
unfolding check_answer check_table
check_credit y l v = sym (row_goes _ _ v (rw (named_number Credit) (row_goes _ _ refl (checked_right y Credit l))))

-- DEMAND 2
pub accepted_iff_lawful : (w : ℕ) (p : Profile) (l : List ℕ) → (check_answer w (profile_number p) l ≡ accepted) ↔ Lawful w (figures_of p) l
accepted_iff_lawful w p l = (
  λ e. let c = check_clear w (profile_number p) l e in notices_lawful w (figures_of p) l c.winter c.list (rw (named_number p) at c.notices),
  λ r. clear_check w (profile_number p) l (record {
    winter = (winter_range w).1 r.winter;
    profile = rw (named_number p);
    list = whole_test (length l) r.whole r.few;
    notices = rw (named_number p) (lawful_notices w (figures_of p) l r);
  }),
)
