-- What a reader holds of an accepted medium-power settlement: so many lines, of each its code, place, energy and reduction, and three totals. It has
-- two faces: the numbers of the output beside the answer, and the 64-bit numbers that C reads out of the bytes it lent.
-- Assumes nothing.
use Rattle.std.specs.Prelude.{ℕ, ◌+◌, ◌*◌, List, get_or}
use Rattle.power.specs.Lines.{power_line_numbers}
use Rattle.power.specs.Settlement.{PowerSettlement}
use Rattle.demands.specs.Faces.{number64}

pub record PowerSheet : Type 0 where
  pub lines : ℕ
  pub code : ℕ → ℕ
  pub place : ℕ → ℕ
  pub energy : ℕ → ℕ
  pub reduction : ℕ → ℕ
  pub sum : ℕ
  pub settled : ℕ
  pub cents : ℕ

-- n lines of four numbers each (rule 11.6), one line after another, by what stands at an index, and the totals (rule 11.10)
abbrev pub power_sheet_of : ℕ → (ℕ → ℕ) → ℕ → ℕ → ℕ → PowerSheet
power_sheet_of n number total count credit = record {
  lines = n;
  code = λ (k : ℕ). number (power_line_numbers * k);
  place = λ (k : ℕ). number (power_line_numbers * k + 1);
  energy = λ (k : ℕ). number (power_line_numbers * k + 2);
  reduction = λ (k : ℕ). number (power_line_numbers * k + 3);
  sum = total;
  settled = count;
  cents = credit;
}

-- the numbers of an output, and an answer
abbrev pub power_output : ℕ → List ℕ → PowerSettlement → PowerSheet
power_output n out s = power_sheet_of n (λ (i : ℕ). get_or out i 0) s.sum s.settled s.cents

-- the bytes of an output, and those of the totals in their order (rule 9.9)
abbrev pub power_in_bytes : ℕ → List ℕ → List ℕ → PowerSheet
power_in_bytes n bytes totals = power_sheet_of n (number64 bytes) (number64 totals 0) (number64 totals 1) (number64 totals 2)
