-- The settlement of a winter: what it answers, and what it leaves in the lent output.
-- Assumes nothing.
use Rattle.std.specs.Prelude.{ℕ, ◌*◌, ◌≤◌, false, cond, List, ◌≡◌, length, get_or, Ok, Err, Result}
use Rattle.laws.specs.Answer.{Answer}
use Rattle.laws.specs.Rows.{rows_over}
use Rattle.laws.specs.Sums.{sum_to}
use Rattle.laws.specs.Table.{is_refusal}
use Rattle.money.specs.Price.{bad_price}
use Rattle.money.specs.Worth.{rounded_worth}
use Rattle.notices.specs.Notices.{most_notices, count_of}
use Rattle.settlement.specs.Events.{event_at, energy_at}
use Rattle.energy.specs.Event.{Event}
use Rattle.credit.specs.Lines.{line_numbers, line_at}
use Rattle.credit.specs.Refusals.{refusal_of}
use Rattle.credit.specs.declared.lines.Totals.{Totals}
use Rattle.refusals.specs.Refusals.{rule_number}
use Rattle.refusals.specs.declared.refusal.Refusal.{Refusal}

-- what a settlement answers on paper: the refusal number and place, 0 if it is accepted, and the totals, 0 if it is refused
pub record Settlement : Type 0 where
  pub number : ℕ
  pub place : ℕ
  pub energy : ℕ
  pub cents : ℕ

-- rule 4.2: no totals beside a refusal
abbrev pub refused_with : ℕ → ℕ → Settlement
refused_with number place = record { number = number; place = place; energy = 0; cents = 0 }

-- what the call gives, as this answer
abbrev pub settlement_paper : Result Totals Refusal → Settlement
settlement_paper (Ok totals) = record { number = 0; place = 0; energy = totals.energy; cents = totals.cents }
settlement_paper (Err refusal) = refused_with (rule_number refusal.rule) refusal.place

-- rule 7.7: the totals, with number and place of an accepted call
abbrev pub totals_of : ℕ → (ℕ → Event) → ℕ → Settlement
totals_of p events n = record { number = 0; place = 0; energy = sum_to (energy_at events) n; cents = rounded_worth p (sum_to (energy_at events) n) }

-- these totals alone
abbrev pub totals_in : ℕ → (ℕ → Event) → ℕ → Totals
totals_in p events n = record { energy = sum_to (energy_at events) n; cents = rounded_worth p (sum_to (energy_at events) n) }

-- rule 7.6: the lines at the front, and the rest as it was
abbrev pub lines_in : ℕ → (ℕ → Event) → ℕ → List ℕ → List ℕ
lines_in p events n out = rows_over line_numbers (line_at p events) n out

-- rule 4.2: the refusal and nothing written, or the settlement
unfoldable pub settled_by : Answer → ℕ → (ℕ → Event) → ℕ → Settlement
settled_by refusal p events n = cond (is_refusal refusal) (refused_with refusal.number (get_or refusal.values 0 0)) (totals_of p events n)

unfoldable pub written_by : Answer → ℕ → (ℕ → Event) → ℕ → List ℕ → List ℕ
written_by refusal p events n out = cond (is_refusal refusal) out (lines_in p events n out)

-- winter, book, price, list, and how many numbers the output has (rule 7.8)
unfoldable pub settlement : ℕ → List ℕ → ℕ → List ℕ → ℕ → Settlement
settlement w book p l room = settled_by (refusal_of w (length book) p l room) p (event_at w book l) (count_of l)

-- winter, book, price, list and output
unfoldable pub written : ℕ → List ℕ → ℕ → List ℕ → List ℕ → List ℕ
written w book p l out = written_by (refusal_of w (length book) p l (length out)) p (event_at w book l) (count_of l) out

-- what the private functions ask: n lines have room, they are few, and the price is right
pub record Fits (p n room : ℕ) : Type 0 where
  pub room_enough : line_numbers * n ≤ room
  pub few : n ≤ most_notices
  pub price : bad_price p ≡ false
