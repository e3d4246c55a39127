-- The rules of a notice's hours: true where the number is given.
-- Assumes nothing.
use Rattle.std.specs.Prelude.{ℕ, Bool, not, ◌&&◌, ◌||◌, leb, ltb}
use Rattle.laws.specs.Below.{some_below}
use Rattle.notices.specs.Notices.{hours_of}
use Rattle.notices.specs.declared.notices.Notice.{Notice}
use Rattle.notices.specs.declared.profiles.Band.{Band}
use Rattle.notices.specs.declared.profiles.Figures.{Figures}

-- h is one of the hours from s to e - 1 (rule 2.10)
unfoldable pub is_hour : ℕ → ℕ → ℕ → Bool
is_hour s e h = leb s h && ltb h e

-- some hour of the notice is an hour of the band (rule 3.9), so one below the band's end
unfoldable pub touches : Band → Notice → Bool
touches b n = some_below b.end (λ (h : ℕ). is_hour n.start n.end h && is_hour b.start b.end h)

-- not inside a band (rule 3.6)
unfoldable pub outside : Band → Notice → Bool
outside b n = ltb n.start b.start || ltb b.end n.end

-- rule 4.12: 13, the end is not after the start
unfoldable pub no_hours : Notice → Bool
no_hours n = leb n.end n.start

-- rule 4.27: 26, no hour in a band
unfoldable pub no_band : Figures → Notice → Bool
no_band f n = not (touches f.morning n || touches f.evening n)

-- rule 4.28: 27, not inside one band
unfoldable pub across_band : Figures → Notice → Bool
across_band f n = outside f.morning n && outside f.evening n

-- whether one of the three is given (the law `hours_kept`): no hours, or not inside one band
unfoldable pub bad_hours : Figures → Notice → Bool
bad_hours f n = no_hours n || across_band f n

-- rules 3.3 and 4.13: 14, too short or too long an event
unfoldable pub bad_length : Figures → Notice → Bool
bad_length f n = ltb (hours_of n) f.shortest || ltb f.longest (hours_of n)
