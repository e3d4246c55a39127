-- Demand 3: the cents of the lines of an accepted settlement against what their energy is worth, and the totals (`Demand3`).
-- Assumes nothing.
use Prim.Native.Nat.{ℕ, ◌*◌, ◌/◌}
use mathlib.Core.List.{List}
use mathlib.Core.Path.{◌≡◌}
use lib.ListN.{length, replicate}
use Rattle.boundary.specs.Calls.{settle_call, settle_bytes}
use Rattle.wire.specs.Decoded.{decoded}
use Rattle.credit.proofs.Demands.{run_within_a_cent, first_run_within_half, no_line_negative, cents_add_up, energies_add_up}
use Rattle.credit.specs.Lines.{line_numbers}
use Rattle.credit.specs.Printed.{energy_in, cents_in}
use Rattle.credit.specs.Settlement.{settlement, written}
use Rattle.form.specs.Form.{notices_said}
use Rattle.laws.specs.Sums.{run_of}
use Rattle.laws.specs.Table.{accepted}
use Rattle.notices.specs.Notices.{count_of}
use Rattle.text.proofs.Statements.{room, standing}
use Rattle.text.specs.Refusals.{text_refusal}
use Rattle.text.specs.Statement.{statement_of}
use Rattle.text.specs.Values.{winter_said, price_said, book_said}
use Rattle.demands.specs.Demand3.{Demand3}
use Rattle.demands.specs.Faces.{shown_price, shown_energy, shown_total, in_output, in_bytes, in_statement}
use Rattle.demands.proofs.LentBytes.{same_settlement, just, same_lines}
use Rattle.demands.proofs.Printed.{output, price_shown, energy_shown, total_shown, printed_same}
use Rattle.demands.proofs.Sheets.{demand_3_same}

pub cents : (winter price : ℕ) (book list out : List ℕ) → (settlement winter book price list (length out)).number ≡ 0
    → Demand3 price (in_output (count_of list) (written winter book price list out)) (settlement winter book price list (length out)).energy
    (settlement winter book price list (length out)).cents
cents winter price book list out ok =
    record {
      any_run = run_within_a_cent winter price book list out ok;
      first_run = first_run_within_half winter price book list out ok;
      none_negative = no_line_negative winter price book list out ok;
      cents_add_up = cents_add_up winter price book list out ok;
      energies_add_up = energies_add_up winter price book list out ok;
    }

-- of the numbers that C reads out of the bytes it lent: what it adds up are the totals of the settlement
pub cents_c : (winter price : ℕ) (book list out : List ℕ) → settle_call winter book price list (length out) ≡ 0
    → Demand3 price (in_bytes (count_of (decoded list)) (settle_bytes winter book price list out))
    (settlement winter (decoded book) price (decoded list) (length out / 8)).energy
    (settlement winter (decoded book) price (decoded list) (length out / 8)).cents
cents_c winter price book list out ok =
    let room : List ℕ = replicate (line_numbers * count_of (decoded list)) 0 in
    rw (← same_settlement winter price book list out ok)
    (demand_3_same (same_lines winter price book list out ok) (cents winter price (decoded book) (decoded list) room (just winter price book list out ok)))

-- of the numbers that stand in the statement of an accepted text: its price, its lines and its last two numbers
module _ (text : List ℕ) (ok : text_refusal text ≡ accepted) where
  abbrev n : ℕ
  n = count_of (notices_said text)

  abbrev numbers : List ℕ
  numbers = output text ok

  of_output : Demand3 (price_said text) (in_output n numbers) (run_of (energy_in numbers) 0 n) (run_of (cents_in numbers) 0 n)
  of_output =
      let d = cents (winter_said text) (price_said text) (book_said text) (notices_said text) (room text ok) (standing text ok) in
      rw (d.energies_add_up, d.cents_add_up) d

  pub cents_text : Demand3 (shown_price (statement_of text)) (in_statement (statement_of text)) (shown_energy (statement_of text))
      (shown_total (statement_of text))
  cents_text = rw (price_shown text ok, energy_shown text ok, total_shown text ok) (demand_3_same (printed_same text ok) of_output)
