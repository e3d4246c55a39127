-- Laws of the profiles: each is the one that its number names, and the figures of each.
-- Assumes nothing.
use Prim.Native.Nat.{ℕ}
use mathlib.Core.Bool.{Bool, true, false, cond}
use mathlib.Core.Path.{◌≡◌, refl}
use native.Mathlib.Omega.{arith}
use lib.Dec.{eqb}
use Rattle.std.specs.Prelude.{Ok, Err}
use Rattle.notices.specs.Profiles.{credit, power_option, figures_of, profile_number, named}
use Rattle.notices.specs.declared.profiles.Profile.TheVariants.{Credit, PowerOption}
use Rattle.notices.specs.declared.profiles.Profile.{Profile}
use Rattle.refusals.specs.declared.rule.Rule.TheVariants.{NoProfile}
use Rattle.refusals.specs.declared.rule.Rule.{Rule}

pub named_number : (p : Profile) → named (profile_number p) ≡ Ok p
unfolding named
named_number Credit = refl
named_number PowerOption = refl

-- a number that names no profile is told as that, and as nothing else
pub unnamed : (q : ℕ) (rule : Rule) → named q ≡ Err rule → rule ≡ NoProfile
unfolding named
unnamed q rule e = either (eqb q 1) (eqb q 2) e
  where
    either : (b c : Bool) → cond b (Ok Credit) (cond c (Ok PowerOption) (Err NoProfile)) ≡ Err rule → rule ≡ NoProfile
    either true c e = let z : ◌≡◌ {A = ℕ} 0 1 = cc in absurd (omega arith)
    either false true e = let z : ◌≡◌ {A = ℕ} 0 1 = cc in absurd (omega arith)
    either false false e = cc

pub credit_figures : figures_of Credit ≡ credit
unfolding figures_of
credit_figures = refl

pub option_figures : figures_of PowerOption ≡ power_option
unfolding figures_of
option_figures = refl
