-- An event is left unsettled exactly for the listed reasons: fewer than five reference days, or else the first of its needed readings that is
-- missing or above 10,000,000. What the first fault tells is the book's law.
-- Assumes nothing.
use Prim.Native.Nat.{ℕ, ◌≤◌, ◌<◌}
use mathlib.Core.Bool.{Bool, true, false, cond}
use mathlib.Core.List.{List}
use mathlib.Core.Logic.{◌⊎◌, inl, inr}
use mathlib.Core.Path.{◌≡◌, refl, sym, ap, ◌∙◌}
use native.Mathlib.Omega.{arith}
use lib.Dec.{ltb}
use lib.ListN.{length}
use borrow.Author.Tests.{ltb-true, ltb-false, le-ltb}
use Rattle.book.proofs.FirstFault.{Holds, FaultTells, first_found, no_fault, fault_among}
use Rattle.book.specs.Readings.{first_fault}
use Rattle.book.specs.Values.{AtPlace}
use Rattle.std.specs.Prelude.{Option, Some, None}
use Rattle.book.specs.declared.values.Fault.TheVariants.{Missing, TooLarge}
use Rattle.book.specs.declared.values.Fault.{Fault}
use Rattle.calendar.specs.declared.answers.Winter.{Winter}
use Rattle.laws.proofs.Every.{Every}
use Rattle.notices.specs.declared.notices.Notice.{Notice}
use Rattle.references.specs.ReferenceDays.{reference_days}
use Rattle.energy.specs.Asked.{Asked, asked_with, asked_by, needed}
use Rattle.energy.specs.Energy.{energy_of}
use Rattle.energy.specs.Line.{by_fault, line_of}
use Rattle.energy.specs.Event.{Event, settled, unsettled}

-- code and place by a fault are small where its place is
pub fault_small : (m : ℕ) → 0 < m → (f : Option Fault) (energy : ℕ) → AtPlace (λ (p : ℕ). p < m) f
    → ((by_fault f energy).code ≤ 22) × ((by_fault f energy).place < m)
fault_small m some None energy h = (omega arith, some)
fault_small m some (Some (Missing p)) energy h = (omega arith, h)
fault_small m some (Some (TooLarge p)) energy h = (omega arith, h)

module _ (book : List ℕ) (q : Asked) where
  -- why a line says this: code 20 for fewer than five reference days
  pub record FewRefs (e : Event) : Type 0 where
    pub few_refs : length q.refs < 5
    pub says : e ≡ unsettled 20 0

  -- or else by the first fault among the needed readings
  pub record ByReadings (e : Event) : Type 0 where
    pub five_refs : 5 ≤ length q.refs
    pub says : e ≡ by_fault (first_fault book (needed q)) (energy_of book q)
    pub told : FaultTells book (needed q) (first_fault book (needed q))

  abbrev pub Why : Event → Type 0
  Why e = FewRefs e ⊎ ByReadings e

  pub line_why : Why (line_of book q)
  unfolding line_of
  line_why = by (ltb (length q.refs) 5) refl
    where
      by : (few : Bool) → ltb (length q.refs) 5 ≡ few → Why (cond few (unsettled 20 0) (by_fault (first_fault book (needed q)) (energy_of book q)))
      by true few = inl (record { few_refs = ltb-true (length q.refs) 5 few; says = refl })
      by false enough = inr (record { five_refs = ltb-false (length q.refs) 5 enough; says = refl; told = first_found book (needed q) })

  -- settled exactly where there are five reference days and all needed readings
  pub record AllThere : Type 0 where
    pub five_refs : 5 ≤ length q.refs
    pub all_readings_lem : Every (Holds book) (needed q)

  pub settled_where : AllThere → line_of book q ≡ settled (energy_of book q)
  unfolding line_of
  settled_where there = rw (le-ltb (length q.refs) 5 there.five_refs, no_fault book (needed q) there.all_readings_lem)

  by_code : (f : Option Fault) → FaultTells book (needed q) f → (by_fault f (energy_of book q)).code ≡ 0 → Every (Holds book) (needed q)
  by_code None told z = told
  by_code (Some (Missing p)) told z = absurd (omega (arith, z))
  by_code (Some (TooLarge p)) told z = absurd (omega (arith, z))

  pub settled_only : (line_of book q).code ≡ 0 → AllThere
  settled_only z = by (line_of book q) line_why z
    where
      by : (e : Event) → Why e → e.code ≡ 0 → AllThere
      by e (inl few) z = absurd (omega (arith, ap (λ (x : Event). x.code) few.says, z))
      by e (inr enough) z = record {
        five_refs = enough.five_refs;
        all_readings_lem = by_code (first_fault book (needed q)) enough.told (sym (ap (λ (x : Event). x.code) enough.says) ∙ z);
      }

  -- code and place are small where the needed places are
  pub line_small : (m : ℕ) → 0 < m → Every (λ (p : ℕ). p < m) (needed q) → ((line_of book q).code ≤ 22) × ((line_of book q).place < m)
  line_small m some places = by (line_of book q) line_why
    where
      by : (e : Event) → Why e → (e.code ≤ 22) × (e.place < m)
      by e (inl few) = rw few.says (omega arith, some)
      by e (inr enough) =
          rw enough.says (fault_small m some (first_fault book (needed q)) (energy_of book q) (fault_among book (λ (p : ℕ). p < m) (needed q) places))

-- what is asked by the days that are free is asked with the reference days
pub asked_is : (w : Winter) (free : ℕ → Bool) (n : Notice) → asked_by w free n ≡ asked_with w n (reference_days w free n.day n.start)
unfolding asked_by
asked_is w free n = refl
