-- What an energy comes to that is shared out over three or four hours: nothing is cut off, and it is at most what the reference allows.
-- Assumes nothing.
use Prim.Native.Nat.{ℕ, ◌*◌, ◌/◌, ◌≤◌, ◌<◌}
use mathlib.Core.Logic.{◌⊎◌, inl, inr, ⊎_elim}
use mathlib.Core.Path.{◌≡◌, sym}
use native.Mathlib.Nat.{eq-or-lt_of_le, zero-div}
use native.Mathlib.Omega.{arith}
use Rattle.book.specs.declared.values.Fault.TheVariants.{Missing, TooLarge}
use Rattle.book.specs.declared.values.Fault.{Fault}
use Rattle.std.specs.Prelude.{Option, Some, None}
use Rattle.energy.specs.Line.{by_fault}
use Rattle.power.specs.Lines.{settled_one}
use Rattle.power.specs.Ready.{largest_reduction}
use Rattle.power.specs.Refusals.{largest_reference}

-- a fault takes the energy away
pub fault_energy : (f : Option Fault) (energy : ℕ) → (by_fault f energy).energy ≤ energy
fault_energy None energy = omega arith
fault_energy (Some (Missing p)) energy = omega arith
fault_energy (Some (TooLarge p)) energy = omega arith

-- rule 11.4: three and four hours divide twelve, so nothing is cut off
three_or_four : (h : ℕ) → 3 ≤ h → h ≤ 4 → (h ≡ 3) ⊎ (h ≡ 4)
three_or_four h a b = ⊎_elim (λ (e : 3 ≡ h). inl (sym e)) (λ (l : 3 < h). inr (omega arith)) (eq-or-lt_of_le a)

pub over_hours : (h energy : ℕ) → 3 ≤ h → h ≤ 4 → h * (12 * energy / h) ≡ 12 * energy
over_hours h energy three four =
    ⊎_elim (λ (e : h ≡ 3). rw e (omega arith)) (λ (e : h ≡ 4). rw e (omega arith)) (three_or_four h three four)

over_most : (h energy reference : ℕ) → 3 ≤ h → h ≤ 4 → energy ≤ reference * h → 12 * energy / h ≤ 12 * reference
over_most h energy reference three four most =
    ⊎_elim
    (λ (e : h ≡ 3). let m = rw e at most in rw e (omega (arith, m)))
    (λ (e : h ≡ 4). let m = rw e at most in rw e (omega (arith, m)))
    (three_or_four h three four)

pub fault_reduction : (f : Option Fault) (energy h reference : ℕ) → 3 ≤ h → h ≤ 4 → reference ≤ largest_reference → energy ≤ reference * h
    → 12 * (by_fault f energy).energy / h ≤ largest_reduction * settled_one (by_fault f energy)
fault_reduction None energy h reference three four low most = omega (arith, low, over_most h energy reference three four most)
fault_reduction (Some (Missing p)) energy h reference three four low most = rw (zero-div h) (omega arith)
fault_reduction (Some (TooLarge p)) energy h reference three four low most = rw (zero-div h) (omega arith)
