-- An event on paper: its code, its place and its spared energy; and what is told of an event of the code.
-- Assumes nothing.
use Rattle.std.specs.Prelude.{ℕ, List, [], ◌∷◌, Result, Ok, Err}
use Rattle.energy.specs.declared.events.Unsettled.TheVariants.{FewDays, Missing, TooLarge}
use Rattle.energy.specs.declared.events.Unsettled.{Unsettled}

pub record Event : Type 0 where
  pub code : ℕ
  pub place : ℕ
  pub energy : ℕ

-- a settled event has code 0 (rule 5.11)
abbrev pub settled : ℕ → Event
settled energy = record { code = 0; place = 0; energy = energy }

-- one that is left unsettled has no energy (rule 5.11)
abbrev pub unsettled : ℕ → ℕ → Event
unsettled code place = record { code = code; place = place; energy = 0 }

-- the paper's event for each case
abbrev pub event_paper : Result ℕ Unsettled → Event
event_paper (Ok energy) = settled energy
event_paper (Err FewDays) = unsettled 20 0
event_paper (Err (Missing p)) = unsettled 21 p
event_paper (Err (TooLarge p)) = unsettled 22 p

-- the three numbers that a line begins with
abbrev pub event_numbers : Event → List ℕ
event_numbers e = e.code ∷ e.place ∷ e.energy ∷ []
