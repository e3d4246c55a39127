-- The profiles and their figures: section 3's table, one definition for each column.
-- Assumes nothing.
use Rattle.std.specs.Prelude.{ℕ, true, false, cond, Ok, Err, Result, eqb}
use Rattle.notices.specs.declared.profiles.Band.{Band}
use Rattle.notices.specs.declared.profiles.Figures.{Figures}
use Rattle.notices.specs.declared.profiles.Profile.TheVariants.{Credit, PowerOption}
use Rattle.notices.specs.declared.profiles.Profile.{Profile}
use Rattle.refusals.specs.declared.rule.Rule.TheVariants.{NoProfile}
use Rattle.refusals.specs.declared.rule.Rule.{Rule}

abbrev pub band : ℕ → ℕ → Band
band s e = record { start = s; end = e }

-- profile 1, winter credit: bands 6-10 and 16-20; weekends; hours of an event 1 to 4; 100 hours in a winter (rules 3.1, 3.2, 3.3 and 3.4)
abbrev pub credit : Figures
credit = record { morning = band 6 10; evening = band 16 20; weekends = true; shortest = 1; longest = 4; hours = 100 }

-- profile 2, power option: bands 6-9 and 16-20; no weekends; hours of an event 3 or 4; 100 hours in a winter (rules 3.1, 3.2, 3.3 and 3.4)
abbrev pub power_option : Figures
power_option = record { morning = band 6 9; evening = band 16 20; weekends = false; shortest = 3; longest = 4; hours = 100 }

unfoldable pub figures_of : Profile → Figures
figures_of Credit = credit
figures_of PowerOption = power_option

-- rule 3.5: the number of a profile, and the profile of a number
abbrev pub profile_number : Profile → ℕ
profile_number Credit = 1
profile_number PowerOption = 2

unfoldable pub named : ℕ → Result Profile Rule
named q = cond (eqb q 1) (Ok Credit) (cond (eqb q 2) (Ok PowerOption) (Err NoProfile))
