-- The rules of a notice beside those of its hours: true where the number is given.
-- Assumes nothing.
use Rattle.std.specs.Prelude.{◌+◌, Bool, not, ◌&&◌, ◌||◌, ltb, eqb}
use Rattle.std.specs.Bool.{beq}
use Rattle.calendar.specs.Excluded.{excluded}
use Rattle.calendar.specs.Weekdays.{weekend}
use Rattle.calendar.specs.Days.{in_period}
use Rattle.calendar.specs.declared.answers.Winter.{Winter}
use Rattle.notices.specs.Notices.{hours_of}
use Rattle.notices.specs.declared.notices.Notice.{Notice}
use Rattle.notices.specs.declared.profiles.Figures.{Figures}
use Rattle.schedule.specs.declared.rules.Sofar.{Sofar}

-- rule 4.9: 10, not a day of the winter period
unfoldable pub outside_period : Winter → Notice → Bool
outside_period w n = not (in_period w n.day)

-- rule 4.10: 11, an excluded day
unfoldable pub on_excluded_day : Winter → Notice → Bool
on_excluded_day w n = excluded w n.day

-- rules 3.2 and 4.11: 12, a weekend day where the profile has none
unfoldable pub barred_weekend : Figures → Winter → Notice → Bool
barred_weekend f w n = not f.weekends && weekend w n.day

-- rule 4.14: 15, a start before the end of the one before
unfoldable pub starts_before : Notice → Notice → Bool
starts_before last n = ltb n.day last.day || (eqb n.day last.day && ltb n.start last.end)

-- rule 4.15: 16, the day and band of the last event so far. Each lies inside one band by now (27), so that the band is told by whether it
-- starts before the evening's (rule 3.7)
unfoldable pub same_band : Figures → Notice → Notice → Bool
same_band f event n = eqb event.day n.day && beq (ltb event.start f.evening.start) (ltb n.start f.evening.start)

-- rules 3.4 and 4.16: 18, more hours than a winter has
unfoldable pub over_limit : Figures → Sofar → Notice → Bool
over_limit f so n = ltb f.hours (so.hours + hours_of n)
