-- What a line says by the first fault among its needed places: settled exactly where all hold readings, and else unsettled for that fault.
-- Assumes nothing.
use Prim.Native.Nat.{ℕ}
use mathlib.Core.List.{List}
use mathlib.Core.Logic.{inl, inr, ◌↔◌}
use mathlib.Core.Path.{◌≡◌, refl, ap}
use native.Mathlib.Omega.{arith}
use Rattle.book.proofs.FirstFault.{Holds, FaultTells, first_found, no_fault}
use Rattle.book.specs.Readings.{first_fault}
use Rattle.book.specs.declared.values.Fault.TheVariants.{Missing, TooLarge}
use Rattle.book.specs.declared.values.Fault.{Fault}
use Rattle.energy.specs.Line.{by_fault}
use Rattle.energy.specs.Event.{Event}
use Rattle.laws.proofs.Every.{Every}
use Rattle.std.specs.Prelude.{Option, Some, None}
use Rattle.demands.specs.Demand2.{Unsettled}

module _ (book places : List ℕ) (energy : ℕ) where
  pub unsettled_by : (f : Option Fault) → FaultTells book places f → ((by_fault f energy).code ≡ 0 → ⊥)
      → Unsettled book places (by_fault f energy).code (by_fault f energy).place (by_fault f energy).energy
  unsettled_by None told not = absurd (not refl)
  unsettled_by (Some (Missing p)) told not = record { no_energy = refl; first = told.0; why = inl (refl, told.1) }
  unsettled_by (Some (TooLarge p)) told not = record { no_energy = refl; first = told.0; why = inr (refl, told.1, told.2) }

  readings_by : (f : Option Fault) → FaultTells book places f → (by_fault f energy).code ≡ 0 → Every (Holds book) places
  readings_by None told z = told
  readings_by (Some (Missing p)) told z = absurd (omega (arith, z))
  readings_by (Some (TooLarge p)) told z = absurd (omega (arith, z))

  settled_by_lem : (f : Option Fault) → (by_fault f energy).code ≡ 0 → ((by_fault f energy).place ≡ 0) × ((by_fault f energy).energy ≡ energy)
  settled_by_lem None z = (refl, refl)
  settled_by_lem (Some (Missing p)) z = absurd (omega (arith, z))
  settled_by_lem (Some (TooLarge p)) z = absurd (omega (arith, z))

  abbrev event : Event
  event = by_fault (first_fault book places) energy

  pub settled_exactly : (event.code ≡ 0) ↔ Every (Holds book) places
  settled_exactly = (
    readings_by (first_fault book places) (first_found book places),
    λ all. ap (λ (f : Option Fault). (by_fault f energy).code) (no_fault book places all),
  )

  pub settled_so : event.code ≡ 0 → (event.place ≡ 0) × (event.energy ≡ energy)
  settled_so = settled_by_lem (first_fault book places)

  pub unsettled_so : (event.code ≡ 0 → ⊥) → Unsettled book places event.code event.place event.energy
  unsettled_so = unsettled_by (first_fault book places) (first_found book places)
