-- The energies of a winter: what the call answers, and what it leaves in the lent output.
-- Assumes nothing.
use Rattle.std.specs.Prelude.{ℕ, ◌*◌, ◌≤◌, cond, List, length, get_or, Ok, Err, Result}
use Rattle.laws.specs.Answer.{Answer}
use Rattle.laws.specs.Sums.{sum_to}
use Rattle.laws.specs.Table.{is_refusal}
use Rattle.notices.specs.Notices.{most_notices, count_of}
use Rattle.energy.specs.Event.{Event}
use Rattle.settlement.specs.Events.{event_at, energy_at}
use Rattle.settlement.specs.Lines.{line_numbers, lines_in}
use Rattle.settlement.specs.Refusals.{refusal_of}
use Rattle.refusals.specs.Refusals.{rule_number}
use Rattle.refusals.specs.declared.refusal.Refusal.{Refusal}

-- what the call answers on paper: the refusal number and place, 0 if it is accepted, and the total energy, 0 if it is refused
pub record Spared : Type 0 where
  pub number : ℕ
  pub place : ℕ
  pub energy : ℕ

-- rule 4.2: no total beside a refusal
abbrev pub refused_with : ℕ → ℕ → Spared
refused_with number place = record { number = number; place = place; energy = 0 }

-- what the call gives, as this answer
abbrev pub spared_paper : Result ℕ Refusal → Spared
spared_paper (Ok energy) = record { number = 0; place = 0; energy = energy }
spared_paper (Err refusal) = refused_with (rule_number refusal.rule) refusal.place

-- the total, with number and place of an accepted call
abbrev pub total_of : (ℕ → Event) → ℕ → Spared
total_of events n = record { number = 0; place = 0; energy = sum_to (energy_at events) n }

-- rule 4.2: the refusal and nothing written, or the lines
unfoldable pub answered_by : Answer → (ℕ → Event) → ℕ → Spared
answered_by refusal events n = cond (is_refusal refusal) (refused_with refusal.number (get_or refusal.values 0 0)) (total_of events n)

unfoldable pub written_by : Answer → (ℕ → Event) → ℕ → List ℕ → List ℕ
written_by refusal events n out = cond (is_refusal refusal) out (lines_in events n out)

-- winter, book, list, and how many numbers the output has
unfoldable pub energies_of : ℕ → List ℕ → List ℕ → ℕ → Spared
energies_of w book l room = answered_by (refusal_of w (length book) l room) (event_at w book l) (count_of l)

-- winter, book, list and output
unfoldable pub energies_written : ℕ → List ℕ → List ℕ → List ℕ → List ℕ
energies_written w book l out = written_by (refusal_of w (length book) l (length out)) (event_at w book l) (count_of l) out

-- what the private functions ask: n lines have room, and they are few
pub record Fits (n room : ℕ) : Type 0 where
  pub room_enough : line_numbers * n ≤ room
  pub few : n ≤ most_notices
