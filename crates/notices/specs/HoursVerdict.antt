-- What the hours of a notice are told: their three rules in order.
-- Assumes nothing.
use Rattle.std.specs.Prelude.{ℕ, List, [], ◌∷◌}
use Rattle.laws.specs.Table.{Row, row}
use Rattle.notices.specs.Hours.{no_hours, no_band, across_band}
use Rattle.notices.specs.declared.notices.Notice.{Notice}
use Rattle.notices.specs.declared.profiles.Figures.{Figures}

-- the rules of the hours of the notice at index k (rule 4.20)
abbrev pub hour_rows : Figures → Notice → ℕ → List Row
hour_rows f n k = row 13 k (no_hours n) ∷ row 26 k (no_band f n) ∷ row 27 k (across_band f n) ∷ []
