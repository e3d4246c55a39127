-- The first fault from day to day: of a day's three runs of hours, one law for each way out, and of some days with one more.
-- Assumes nothing.
use Prim.Native.Nat.{ℕ, ◌+◌, ◌≤◌, ◌<◌}
use mathlib.Core.Bool.{true, false}
use mathlib.Core.List.{List, [], ◌∷◌, ◌++◌}
use mathlib.Core.Path.{◌≡◌, refl, sym, ap, ◌∙◌}
use lib.ListN.{length, get_or, drop}
use Rattle.std.proofs.Common.{add-one, drop-cons}
use Rattle.std.proofs.lemmas.List.{drop_all}
use Rattle.std.specs.Prelude.{Option, Some, None, is_some}
use Rattle.std.specs.Option.{option_or}
use Rattle.book.proofs.FaultLaws.{faults_joined}
use Rattle.book.specs.Part.{fault_on}
use Rattle.book.specs.Readings.{first_fault}
use Rattle.book.specs.Values.{or_fault}
use Rattle.book.specs.declared.values.Fault.{Fault}
use Rattle.energy.specs.Parts.{numbers_of, parts_of, parts_fault}
use Rattle.energy.specs.declared.days.Day.{Day}

-- three runs of hours of a day: the first fault of the first decides, or else that of the second, or else that of the third
pub three_runs : (part xs ys zs : List ℕ)
    → option_or (option_or (first_fault part xs) (first_fault part ys)) (first_fault part zs) ≡ first_fault part ((xs ++ ys) ++ zs)
three_runs part xs ys zs =
    rw (faults_joined part (xs ++ ys) zs, faults_joined part xs ys)
    (either _ (first_fault part zs) ∙ ap (λ (f : Option Fault). or_fault f (first_fault part zs)) (either (first_fault part xs) (first_fault part ys)))
  where
    either : (f g : Option Fault) → option_or f g ≡ or_fault f g
    either None g = refl
    either (Some x) g = refl

-- a fault of one day decides, whatever the days after it have
module _ (hours : List ℕ) where
  decided : (f : Option Fault) (ds : List ℕ) (ps : List (List ℕ)) → is_some f ≡ true → f ≡ parts_fault hours f ds ps
  unfolding parts_fault
  decided None ds ps t = cc
  decided (Some f) [] ps t = refl
  decided (Some f) (d ∷ ds) [] t = refl
  decided (Some f) (d ∷ ds) (p ∷ ps) t = decided (Some f) ds ps t

  none_told : (f : Option Fault) → is_some f ≡ false → f ≡ None
  none_told None t = refl
  none_told (Some f) t = cc

  -- the first of some days has a fault, or none
  module _ (d : ℕ) (ds p : List ℕ) (ps : List (List ℕ)) (f : Option Fault) (is : f ≡ fault_on d (first_fault p hours)) where
    pub first_faulty : is_some f ≡ true → f ≡ parts_fault hours None (d ∷ ds) (p ∷ ps)
    unfolding parts_fault
    first_faulty t = rw (← is) (decided f ds ps t)

    pub first_clean : is_some f ≡ false → parts_fault hours None ds ps ≡ parts_fault hours None (d ∷ ds) (p ∷ ps)
    unfolding parts_fault
    first_clean t = rw (← is, none_told f t) refl

  -- of some days from the day k on: the same
  module _ (days : List Day) (k : ℕ) where
    from_day : (d : Day) → k < length days
        → parts_fault hours None (numbers_of (drop k days)) (parts_of (drop k days))
        ≡ parts_fault hours None ((get_or days k d).number ∷ numbers_of (drop (k + 1) days)) ((get_or days k d).readings.now ∷ parts_of (drop (k + 1) days))
    from_day d b = rw (drop-cons days k d b, add-one k) refl

    pub no_day : length days ≤ k → None ≡ parts_fault hours None (numbers_of (drop k days)) (parts_of (drop k days))
    unfolding parts_fault
    no_day b = rw (drop_all k days b) refl

    module _ (d : Day) (b : k < length days) (f : Option Fault)
        (is : f ≡ fault_on (get_or days k d).number (first_fault (get_or days k d).readings.now hours)) where
      pub day_faulty : is_some f ≡ true → f ≡ parts_fault hours None (numbers_of (drop k days)) (parts_of (drop k days))
      day_faulty t = first_faulty _ _ _ _ f is t ∙ sym (from_day d b)

      pub day_clean : is_some f ≡ false
          → parts_fault hours None (numbers_of (drop (k + 1) days)) (parts_of (drop (k + 1) days))
          ≡ parts_fault hours None (numbers_of (drop k days)) (parts_of (drop k days))
      day_clean t = first_clean _ _ _ _ f is t ∙ sym (from_day d b)

-- what `needed_fault` comes to, day by day
pub ruleset day_by_day = (first_faulty, first_clean, day_faulty, day_clean, no_day)
