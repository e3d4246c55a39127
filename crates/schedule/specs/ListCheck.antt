-- The list check: its table of rules, in the order in which they are tried (rules 4.20 and 4.21).
-- Assumes nothing.
use Rattle.std.specs.Prelude.{ℕ, zero, suc, ◌+◌, ◌%◌, Bool, true, false, not, ◌||◌, Ok, Err, Result, List, [], ◌∷◌, ◌++◌, ltb, eqb, length}
use Rattle.calendar.specs.Days.{wrong_winter}
use Rattle.calendar.specs.WinterOf.{winter_of}
use Rattle.calendar.specs.declared.answers.Winter.{Winter}
use Rattle.dates.specs.Winters.{no_winter}
use Rattle.laws.specs.Answer.{Answer}
use Rattle.laws.specs.Rows.{rows_to}
use Rattle.laws.specs.Table.{Row, row, first_of}
use Rattle.notices.specs.Hours.{bad_length}
use Rattle.notices.specs.HoursVerdict.{hour_rows}
use Rattle.notices.specs.Notices.{notice_numbers, longest_list, count_of, no_notice, notice_at, hours_of}
use Rattle.notices.specs.Profiles.{figures_of, named}
use Rattle.notices.specs.declared.notices.Notice.{Notice}
use Rattle.notices.specs.declared.profiles.Figures.{Figures}
use Rattle.notices.specs.declared.profiles.Profile.TheVariants.{Credit}
use Rattle.notices.specs.declared.profiles.Profile.{Profile}
use Rattle.refusals.specs.declared.rule.Rule.{Rule}
use Rattle.schedule.specs.Rules.{outside_period, on_excluded_day, barred_weekend, starts_before, same_band, over_limit}
use Rattle.schedule.specs.declared.rules.Sofar.{Sofar}

-- the rules of the day of the notice at index k
unfoldable pub day_rows : Winter → Figures → Notice → ℕ → List Row
day_rows w f n k =
    row 10 k (outside_period w n)
    ∷ row 11 k (on_excluded_day w n)
    ∷ row 12 k (barred_weekend f w n)
    ∷ []

-- its rules among the others
unfoldable pub list_rows : Figures → Sofar → Notice → ℕ → List Row
list_rows f so n k =
    row 15 k (starts_before so.event n)
    ∷ row 16 k (same_band f so.event n)
    ∷ row 18 k (over_limit f so n)
    ∷ []

-- its rules past those of its day: its hours, its length, and the others
abbrev pub hours_on_rows : Figures → Sofar → Notice → ℕ → List Row
hours_on_rows f so n k = hour_rows f n k ++ (row 14 k (bad_length f n) ∷ list_rows f so n k)

-- all its rules, in their order (rule 4.20)
unfoldable pub notice_rows : Winter → Figures → Sofar → Notice → ℕ → List Row
notice_rows w f so n k = day_rows w f n k ++ hours_on_rows f so n k

-- the last event so far and the hours so far: before the first notice none, and after a notice this one and its hours too (rule 4.20)
abbrev pub nothing_before : Sofar
nothing_before = record { event = no_notice; hours = 0 }

unfoldable pub after_notice : Sofar → Notice → Sofar
after_notice so n = record { event = n; hours = so.hours + hours_of n }

unfoldable pub sofar_at : List ℕ → ℕ → Sofar
sofar_at l zero = nothing_before
sofar_at l (suc k) = after_notice (sofar_at l k) (notice_at l k)

-- the rows of the notice at index k of a list, and those of all its notices, one after another
unfoldable pub rows_at : Winter → Figures → List ℕ → ℕ → List Row
rows_at w f l k = notice_rows w f (sofar_at l k) (notice_at l k) k

abbrev pub notices_table : Winter → Figures → List ℕ → List Row
notices_table w f l = rows_to (rows_at w f l) (count_of l)

-- rule 4.6: 4, no list has so many numbers
unfoldable pub bad_list : ℕ → Bool
bad_list length = not (eqb (length % notice_numbers) 0) || ltb longest_list length

-- rule 4.7: 5, no profile is named so
abbrev pub no_profile : Result Profile Rule → Bool
no_profile (Ok p) = false
no_profile (Err rule) = true

-- the figures of the profile that is named; where none is, number 5 is given before a figure counts
abbrev pub named_figures : Result Profile Rule → Figures
named_figures (Ok p) = figures_of p
named_figures (Err rule) = figures_of Credit

-- the whole table, and the first row of it that is broken (rule 4.21)
unfoldable pub check_table : ℕ → ℕ → List ℕ → List Row
check_table y q l =
    row 1 0 (no_winter y)
    ∷ row 5 0 (no_profile (named q))
    ∷ row 4 0 (bad_list (length l))
    ∷ notices_table (winter_of y) (named_figures (named q)) l

unfoldable pub check_answer : ℕ → ℕ → List ℕ → Answer
check_answer y q l = first_of (check_table y q l)

-- the same for a profile and a winter's facts; anything may be handed over as these (rules 1.18 and 4.21)
unfoldable pub checked_in : Winter → Profile → List ℕ → Answer
checked_in w p l =
    first_of
    (row 1 0 (wrong_winter w)
    ∷ row 4 0 (bad_list (length l))
    ∷ notices_table w (figures_of p) l)
