-- What the first fault among some places tells, without the recursion: where there is none, all hold readings; else it names the first place
-- that holds none, and which of the two it is.
-- Assumes nothing.
use Prim.Native.Nat.{ℕ, ◌≤◌, ◌<◌}
use mathlib.Core.Bool.{Bool, true, false, cond}
use mathlib.Core.List.{List, [], ◌∷◌, ◌++◌}
use mathlib.Core.Path.{◌≡◌, refl, ap}
use native.Mathlib.Omega.{arith}
use lib.Dec.{ltb, eqb}
use borrow.Author.Tests.{eqb-true, eqb-false, ltb-true, ltb-false}
use Rattle.std.specs.Prelude.{Option, Some, None}
use Rattle.laws.proofs.Every.{Every, right}
use Rattle.book.specs.Readings.{reading_at, first_fault}
use Rattle.book.specs.Values.{largest_reading, missing_mark, fault_of, or_fault, AtPlace}
use Rattle.book.specs.declared.values.Fault.TheVariants.{Missing, TooLarge}
use Rattle.book.specs.declared.values.Fault.{Fault}

-- rule 2.4: what is no fault is a reading
abbrev pub IsReading : ℕ → Type 0
IsReading v = v ≤ largest_reading

-- what the fault of the value at a place tells
abbrev ValueTells : ℕ → ℕ → Option Fault → Type 0
ValueTells v p None = IsReading v
ValueTells v p (Some (Missing q)) = (q ≡ p) × (v ≡ missing_mark)
ValueTells v p (Some (TooLarge q)) = (q ≡ p) × (largest_reading < v) × (v ≡ missing_mark → ⊥)

tells : (v p : ℕ) → ValueTells v p (fault_of v p)
unfolding fault_of
tells v p = by (eqb v missing_mark) (ltb largest_reading v) refl refl
  where
    by : (missing large : Bool) → eqb v missing_mark ≡ missing → ltb largest_reading v ≡ large
        → ValueTells v p (cond missing (Some (Missing p)) (cond large (Some (TooLarge p)) None))
    by true large e g = (refl, eqb-true v missing_mark e)
    by false true e g = (refl, ltb-true largest_reading v g, eqb-false v missing_mark e)
    by false false e g = ltb-false largest_reading v g

module _ (values : List ℕ) where
  -- a place that holds a reading
  abbrev pub Holds : ℕ → Type 0
  Holds p = IsReading (reading_at values p)

  -- the first of some places that holds none
  pub record FaultyAt (places : List ℕ) (p : ℕ) : Type 0 where
    pub before : List ℕ
    pub after : List ℕ
    pub places_are : places ≡ before ++ (p ∷ after)
    pub readings_before : Every Holds before

  -- what the first fault among some places tells
  abbrev pub FaultTells : List ℕ → Option Fault → Type 0
  FaultTells places None = Every Holds places
  FaultTells places (Some (Missing p)) = FaultyAt places p × (reading_at values p ≡ missing_mark)
  FaultTells places (Some (TooLarge p)) = FaultyAt places p × (largest_reading < reading_at values p) × (reading_at values p ≡ missing_mark → ⊥)

  module _ (p : ℕ) (places : List ℕ) where
    here : FaultyAt (p ∷ places) p
    here = record { before = []; after = places; places_are = refl; readings_before = tt }

    later : {q : ℕ} → Holds p → FaultyAt places q → FaultyAt (p ∷ places) q
    later r f = record {
      before = p ∷ f.before;
      after = f.after;
      places_are = ap (λ (l : List ℕ). p ∷ l) f.places_are;
      readings_before = (r, f.readings_before);
    }

    one_more : (f g : Option Fault) → ValueTells (reading_at values p) p f → FaultTells places g → FaultTells (p ∷ places) (or_fault f g)
    one_more None None t h = (t, h)
    one_more None (Some (Missing q)) t h = (later t h.0, h.1)
    one_more None (Some (TooLarge q)) t h = (later t h.0, h.1, h.2)
    one_more (Some (Missing q)) g t h = rw t.0 (here, t.1)
    one_more (Some (TooLarge q)) g t h = rw t.0 (here, t.1, t.2)

  pub first_found : (places : List ℕ) → FaultTells places (first_fault values places)
  unfolding first_fault
  first_found [] = tt
  first_found (p ∷ places) =
      one_more p places (fault_of (reading_at values p) p) (first_fault values places) (tells (reading_at values p) p) (first_found places)

  -- what holds of all the places holds of the one that is told
  at_faulty : (P : ℕ → Type 0) (places : List ℕ) (p : ℕ) → FaultyAt places p → Every P places → P p
  at_faulty P places p f h = (right P f.before (p ∷ f.after) (rw f.places_are at h)).0

  -- where all hold readings there is no fault
  pub no_fault : (places : List ℕ) → Every Holds places → first_fault values places ≡ None
  no_fault places h = by (first_fault values places) (first_found places)
    where
      by : (f : Option Fault) → FaultTells places f → f ≡ None
      by None t = refl
      by (Some (Missing p)) t = absurd (omega (arith, at_faulty Holds places p t.0 h, t.1))
      by (Some (TooLarge p)) t = absurd (omega (arith, at_faulty Holds places p t.0 h, t.1))

  -- and a fault is told at one of the places
  pub fault_among : (P : ℕ → Type 0) (places : List ℕ) → Every P places → AtPlace P (first_fault values places)
  fault_among P places h = by (first_fault values places) (first_found places)
    where
      by : (f : Option Fault) → FaultTells places f → AtPlace P f
      by None t = tt
      by (Some (Missing p)) t = at_faulty P places p t.0 h
      by (Some (TooLarge p)) t = at_faulty P places p t.0 h
