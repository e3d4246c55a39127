-- Number and place in one number: rule 9.5. A place is at most 65,535 (rule 9.6), so that nothing of it is cut off.
-- Assumes nothing.
use Rattle.std.specs.Prelude.{ℕ, ◌+◌, ◌*◌, ◌%◌, Result}
use Rattle.refusals.specs.Refusals.{number_of, place_of}
use Rattle.refusals.specs.declared.refusal.Refusal.{Refusal}

abbrev pub packed : {A : Type 0} → Result A Refusal → ℕ
packed v = 65536 * number_of v + place_of v % 65536
