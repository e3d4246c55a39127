-- What the code reads of an event without its paper: its energy, which is 0 where it is left unsettled, and whether it is settled.
-- Assumes nothing.
use mathlib.Core.Path.{◌≡◌, refl}
use Prim.Native.Nat.{ℕ}
use lib.Dec.{eqb}
use Rattle.std.specs.Prelude.{Result, Ok, Err}
use Rattle.std.specs.Result.{is_ok, result_unwrap_or}
use Rattle.energy.specs.Event.{event_paper}
use Rattle.energy.specs.declared.events.Unsettled.TheVariants.{FewDays, Missing, TooLarge}
use Rattle.energy.specs.declared.events.Unsettled.{Unsettled}

pub event_energy : (r : Result ℕ Unsettled) → result_unwrap_or r 0 ≡ (event_paper r).energy
event_energy (Ok energy) = refl
event_energy (Err FewDays) = refl
event_energy (Err (Missing p)) = refl
event_energy (Err (TooLarge p)) = refl

pub event_settled : (r : Result ℕ Unsettled) → is_ok r ≡ eqb (event_paper r).code 0
event_settled (Ok energy) = refl
event_settled (Err FewDays) = refl
event_settled (Err (Missing p)) = refl
event_settled (Err (TooLarge p)) = refl
