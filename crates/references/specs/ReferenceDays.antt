-- Reference days.
-- Assumes nothing.
use Rattle.std.specs.Prelude.{ℕ, zero, suc, ◌-◌, Bool, true, not, cond, ◌&&◌, ◌||◌, List, [], ◌∷◌, ◌++◌, eqb, length, get_or, take, replicate}
use Rattle.std.specs.Bool.{beq}
use Rattle.calendar.specs.Clocks.{has_hour}
use Rattle.calendar.specs.Days.{wrong_winter, no_day}
use Rattle.calendar.specs.Excluded.{excluded}
use Rattle.calendar.specs.Weekdays.{weekend}
use Rattle.calendar.specs.declared.answers.Winter.{Winter}
use Rattle.references.specs.WarmUp.{warm_up}
use Rattle.references.specs.declared.search.Refs.{Refs}

-- rule 5.5: the days without an event, by the masks of all days; the masks enter the rules here and nowhere else
unfoldable pub free_in : List ℕ → ℕ → Bool
free_in masks d = eqb (get_or masks d 0) 0

-- whether day d has each of some hours (rule 1.20)
unfoldable pub has_each : Winter → ℕ → List ℕ → Bool
has_each w d [] = true
has_each w d (h ∷ hours) = has_hour w d h && has_each w d hours

-- rule 5.4: a day that serves an event that starts at hour s of another day
unfoldable pub serves : Winter → (ℕ → Bool) → ℕ → ℕ → ℕ → Bool
serves w free day s d = beq (weekend w d) (weekend w day) && free d && not (excluded w d) && has_each w d (warm_up w day s)

-- a day before other days, where it is wanted
abbrev pub with_day : Bool → ℕ → List ℕ → List ℕ
with_day b d ds = cond b (d ∷ ds) ds

-- the days before d that pass a test, nearest first (rule 5.6)
unfoldable pub before : (ℕ → Bool) → ℕ → List ℕ
before ok zero = []
before ok (suc d) = with_day (ok d) d (before ok d)

-- rule 5.6: five at most, the nearest first
unfoldable pub reference_days : Winter → (ℕ → Bool) → ℕ → ℕ → List ℕ
reference_days w free day s = take 5 (before (serves w free day s) day)

-- as the call gives them: five numbers and a count, the days first and zeros behind them
abbrev pub refs_of : List ℕ → Refs
refs_of ds = record { days = ds ++ replicate (5 - length ds) 0; count = length ds }

-- the call: a wrong winter or a day outside the book has no days
unfoldable pub refs_in : Winter → (ℕ → Bool) → ℕ → ℕ → Refs
refs_in w free day s = refs_of (cond (wrong_winter w || no_day w day) [] (reference_days w free day s))
