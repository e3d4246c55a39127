-- All that proofs ask of a profile's figures, one line a profile: its sums stay small, and its bands lie in those of the winter credit.
-- Assumes nothing.
use Rattle.std.specs.Prelude.{ℕ, ◌≤◌}
use Rattle.std.proofs.Common.{arith}
use Rattle.notices.specs.Profiles.{credit, figures_of}
use Rattle.notices.specs.declared.profiles.Band.{Band}
use Rattle.notices.specs.declared.profiles.Figures.{Figures}
use Rattle.notices.specs.declared.profiles.Profile.TheVariants.{Credit, PowerOption}
use Rattle.notices.specs.declared.profiles.Profile.{Profile}

-- no profile has more hours in a winter
abbrev pub most_hours : ℕ
most_hours = 100

pub record Sane (f : Figures) : Type 0 where
  pub longest : f.longest ≤ 24
  pub hours : f.hours ≤ most_hours

pub sane : (p : Profile) → Sane (figures_of p)
unfolding figures_of
sane Credit = omega arith
sane PowerOption = omega arith

-- a band is a part of another
pub record PartOf (whole part : Band) : Type 0 where
  pub from : whole.start ≤ part.start
  pub to : part.end ≤ whole.end

-- figures with bands
pub record Banded (f : Figures) : Type 0 where
  pub morning : PartOf credit.morning f.morning
  pub evening : PartOf credit.evening f.evening

pub banded : (p : Profile) → Banded (figures_of p)
unfolding figures_of
banded Credit = record { morning = omega arith; evening = omega arith }
banded PowerOption = record { morning = omega arith; evening = omega arith }
