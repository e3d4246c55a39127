-- The lines that stand in the statement of an accepted text are those of the settlement of its values: each printed number reads back.
-- Assumes nothing.
use Prim.Native.Nat.{ℕ, ◌<◌}
use mathlib.Core.List.{List}
use mathlib.Core.Path.{◌≡◌, ap, ◌∙◌}
use native.Mathlib.Omega.{arith}
use lib.ListN.{get_or}
use Rattle.credit.specs.Printed.{energy_in, cents_in}
use Rattle.form.specs.Form.{notices_said}
use Rattle.laws.specs.Sums.{run_of}
use Rattle.laws.specs.Table.{accepted}
use Rattle.notices.specs.Notices.{count_of, notice_at}
use Rattle.numerals.specs.Numbers.{numbers_in}
use Rattle.printing.proofs.Shows.{shown_numbers, shown_line, shown_total_lem}
use Rattle.printing.specs.Sheet.{numbers_at}
use Rattle.text.proofs.Statements.{lines, numbers_shown}
use Rattle.text.specs.Refusals.{text_refusal}
use Rattle.text.specs.Statement.{statement_of}
use Rattle.text.specs.Values.{winter_said, price_said}
use Rattle.demands.specs.Faces.{shown, shown_at, shown_winter, shown_price, shown_lines, shown_energy, shown_total, in_output, in_statement, ShowsNotice}
use Rattle.demands.proofs.Sheets.{Same}

module _ (s : List ℕ) (ok : text_refusal s ≡ accepted) where
  abbrev list : List ℕ
  list = notices_said s

  abbrev n : ℕ
  n = count_of list

  -- the numbers of the settlement's output, with just the room for its lines
  abbrev pub output : List ℕ
  output = lines s ok

  abbrev energy : ℕ
  energy = run_of (energy_in output) 0 n

  abbrev cents : ℕ
  cents = run_of (cents_in output) 0 n

  abbrev bytes : List ℕ
  bytes = statement_of s

  are : numbers_in bytes ≡ shown_numbers (winter_said s) (price_said s) list output energy cents
  are = numbers_shown s ok

  at : (i : ℕ) → shown bytes i ≡ get_or (shown_numbers (winter_said s) (price_said s) list output energy cents) i 0
  at i = ap (λ (ns : List ℕ). get_or ns i 0) are

  pub winter_shown : shown_winter bytes ≡ winter_said s
  winter_shown = at 0

  pub price_shown : shown_price bytes ≡ price_said s
  price_shown = at 1

  pub lines_shown : shown_lines bytes ≡ n
  lines_shown = at 2

  number_shown : (k j : ℕ) → k < n → j < 7 → shown_at bytes k j ≡ get_or (numbers_at list output k) j 0
  number_shown k j h b = at _ ∙ shown_line (winter_said s) (price_said s) list output energy cents k j h b

  -- each line shows its notice
  pub notice_shown : (k : ℕ) → k < n → ShowsNotice bytes k (notice_at list k)
  notice_shown k h =
      record { day = number_shown k 0 h (omega arith); start = number_shown k 1 h (omega arith); end = number_shown k 2 h (omega arith) }

  pub energy_shown : shown_energy bytes ≡ energy
  energy_shown = rw lines_shown (at _ ∙ shown_total_lem (winter_said s) (price_said s) list output energy cents 0)

  pub total_shown : shown_total bytes ≡ cents
  total_shown = rw lines_shown (at _ ∙ shown_total_lem (winter_said s) (price_said s) list output energy cents 1)

  pub printed_same : Same (in_statement bytes) (in_output n output)
  printed_same =
      record {
        lines = lines_shown;
        each = λ k h. record {
          code = number_shown k 3 h (omega arith);
          place = number_shown k 4 h (omega arith);
          energy = number_shown k 5 h (omega arith);
          cents = number_shown k 6 h (omega arith);
        };
      }
