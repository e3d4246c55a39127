-- What an answer of `winter_of`, `kind_of` or `clocks_forward` tells: since no second outcome fits, it is the one that the definitions make.
-- Assumes nothing.
use Prim.Native.Nat.{ℕ}
use mathlib.Core.Bool.{Bool, true, false, cond}
use mathlib.Core.Logic.{◌⊎◌}
use mathlib.Core.Path.{◌≡◌, refl, sym}
use native.Mathlib.Omega.{arith}
use Rattle.laws.proofs.Refusals.{refused, kept}
use Rattle.laws.specs.Answer.{refusal, refuse}
use Rattle.dates.specs.Winters.{no_winter}
use Rattle.calendar.specs.Answers.{facts_paper, known_paper, kind_paper, change_paper, winter_facts, day_kind, forward_day}
use Rattle.calendar.specs.Clocks.{clocks_forward}
use Rattle.calendar.specs.Days.{wrong_winter, no_day, in_period}
use Rattle.calendar.specs.Excluded.{excluded}
use Rattle.calendar.specs.Weekdays.{weekend}
use Rattle.calendar.specs.WinterOf.{winter_of}
use Rattle.calendar.specs.declared.answers.Kind.{Kind}
use Rattle.calendar.specs.declared.answers.Winter.{Winter}
use Rattle.dates.specs.declared.answers.DateError.TheVariants.{NoWinter, NoDay}
use Rattle.dates.specs.declared.answers.DateError.{DateError}
use Rattle.std.specs.Prelude.{Option, Some, None, Result, Ok, Err}
use Rattle.calendar.proofs.OneOutcome.{known_one, kind_one, change_one}

pub known_is : (y : ℕ) (r : Option Winter) → known_paper r ≡ winter_facts y → r ≡ cond (no_winter y) None (Some (winter_of y))
unfolding winter_facts
known_is y r e = known_one r _ (winter_facts y) e (sym (either (no_winter y)))
  where
    either : (b : Bool) → refuse b (refusal 1) (facts_paper (winter_of y)) ≡ known_paper (cond b None (Some (winter_of y)))
    either true = sym (refused _ _ refl)
    either false = sym (kept _ refl refl)

-- the kind of a day as a value
abbrev pub kind_in : Winter → ℕ → Kind
kind_in w d = record { period = in_period w d; weekend = weekend w d; excluded = excluded w d }

pub kind_read : (w : Winter) (d : ℕ) (r : Result Kind DateError) → kind_paper r ≡ day_kind w d
    → r ≡ cond (wrong_winter w) (Err NoWinter) (cond (no_day w d) (Err NoDay) (Ok (kind_in w d)))
unfolding day_kind
kind_read w d r e = kind_one r _ (day_kind w d) e (sym (either (wrong_winter w) (no_day w d)))
  where
    either : (b c : Bool) → refuse b (refusal 1) (refuse c (refusal 10) (kind_paper (Ok (kind_in w d))))
        ≡ kind_paper (cond b (Err NoWinter) (cond c (Err NoDay) (Ok (kind_in w d))))
    either true c = sym (refused _ _ refl)
    either false true = sym (kept _ refl (refused _ _ refl))
    either false false = sym (kept _ refl (kept _ refl refl))

pub kind_is : (w : Winter) (d : ℕ) (r : Result Kind DateError) → wrong_winter w ≡ false → kind_paper r ≡ day_kind w d
    → r ≡ cond (no_day w d) (Err NoDay) (Ok (kind_in w d))
kind_is w d r f e = rw f at (kind_read w d r e)

-- and what that says of each case
pub no_winter_known : (y : ℕ) (r : Option Winter) → r ≡ None → known_paper r ≡ winter_facts y → no_winter y ≡ true
no_winter_known y r q e = grind (arith, known_is y r e)

pub winter_known : (y : ℕ) (r : Option Winter) (w : Winter) → r ≡ Some w → known_paper r ≡ winter_facts y → (no_winter y ≡ false) × (w ≡ winter_of y)
winter_known y r w q e = let is = known_is y r e in (grind arith, grind arith)

pub day_known : (w : Winter) (d : ℕ) (r : Result Kind DateError) (k : Kind)
    → r ≡ Ok k → wrong_winter w ≡ false → kind_paper r ≡ day_kind w d → (no_day w d ≡ false) × (k ≡ kind_in w d)
day_known w d r k q f e = let is = kind_is w d r f e in (grind arith, grind arith)

pub no_day_known : (w : Winter) (d : ℕ) (r : Result Kind DateError)
    → (r ≡ Err NoDay) ⊎ (r ≡ Err NoWinter) → wrong_winter w ≡ false → kind_paper r ≡ day_kind w d → no_day w d ≡ true
no_day_known w d r q f e = let is = kind_is w d r f e in grind arith

-- where any facts may have been handed over: whether they are a winter's
module _ (w : Winter) (d : ℕ) (r : Result Kind DateError) where
  pub wrong_known : r ≡ Err NoWinter → kind_paper r ≡ day_kind w d → wrong_winter w ≡ true
  wrong_known q e = let is = kind_read w d r e in grind arith

  pub right_known : (r ≡ Err NoWinter → ◌≡◌ {A = ℕ} 0 1) → kind_paper r ≡ day_kind w d → wrong_winter w ≡ false
  right_known f e = let is = kind_read w d r e in grind arith

-- of facts that are a winter's, the Sunday the clocks go forward is always told
module _ (w : Winter) (right : wrong_winter w ≡ false) {r : Option ℕ} where
  pub forward_known : change_paper r ≡ forward_day w → r ≡ Some (clocks_forward w)
  unfolding forward_day
  forward_known e = change_one r _ (forward_day w) e (kept (refusal 1) right refl)

  pub forward_on : {day : ℕ} → r ≡ Some day → change_paper r ≡ forward_day w → day ≡ clocks_forward w
  forward_on q e = let is = forward_known e in cc

  pub forward_told : r ≡ None → change_paper r ≡ forward_day w → ⊥
  forward_told q e = let is = forward_known e in let z : ◌≡◌ {A = ℕ} 0 1 = cc in omega arith
