-- What a reader holds of an accepted settlement: so many lines, and of each its code, place, energy and cents. It has three faces: the numbers
-- of the output, the 64-bit numbers that C reads out of the lent bytes, and the numbers that stand in a printed statement.
-- Assumes nothing.
use Rattle.std.specs.Prelude.{ℕ, ◌+◌, ◌*◌, List, ◌≡◌, get_or}
use Rattle.credit.specs.Lines.{line_numbers}
use Rattle.notices.specs.Notices.{notice_numbers}
use Rattle.notices.specs.declared.notices.Notice.{Notice}
use Rattle.numerals.specs.Numbers.{numbers_in}
use Rattle.wire.specs.Bytes.{eight_bytes_at}

pub record Sheet : Type 0 where
  pub lines : ℕ
  pub code : ℕ → ℕ
  pub place : ℕ → ℕ
  pub energy : ℕ → ℕ
  pub cents : ℕ → ℕ

-- n lines of four numbers each (rule 7.5), one line after another, by what stands at an index
abbrev pub sheet_of : ℕ → (ℕ → ℕ) → Sheet
sheet_of n number = record {
  lines = n;
  code = λ (k : ℕ). number (line_numbers * k);
  place = λ (k : ℕ). number (line_numbers * k + 1);
  energy = λ (k : ℕ). number (line_numbers * k + 2);
  cents = λ (k : ℕ). number (line_numbers * k + 3);
}

-- the numbers of an output
abbrev pub in_output : ℕ → List ℕ → Sheet
in_output n out = sheet_of n (λ (i : ℕ). get_or out i 0)

-- rule 9.2: the 64-bit number at an index of some bytes
abbrev pub number64 : List ℕ → ℕ → ℕ
number64 bytes i = eight_bytes_at bytes (8 * i)

abbrev pub in_bytes : ℕ → List ℕ → Sheet
in_bytes n bytes = sheet_of n (number64 bytes)

-- the number that stands at an index in some printed bytes
abbrev pub shown : List ℕ → ℕ → ℕ
shown bytes i = get_or (numbers_in bytes) i 0

-- rules 8.11 and 8.12: a statement shows winter, price and how many lines, then each line's notice and its four numbers, and then the two totals
abbrev pub shown_winter : List ℕ → ℕ
shown_winter bytes = shown bytes 0

abbrev pub shown_price : List ℕ → ℕ
shown_price bytes = shown bytes 1

abbrev pub shown_lines : List ℕ → ℕ
shown_lines bytes = shown bytes 2

-- number j of line k, and of what follows n lines
abbrev pub shown_at : List ℕ → ℕ → ℕ → ℕ
shown_at bytes k j = shown bytes (3 + ((notice_numbers + line_numbers) * k + j))

abbrev pub in_statement : List ℕ → Sheet
in_statement bytes = record {
  lines = shown_lines bytes;
  code = λ (k : ℕ). shown_at bytes k 3;
  place = λ (k : ℕ). shown_at bytes k 4;
  energy = λ (k : ℕ). shown_at bytes k 5;
  cents = λ (k : ℕ). shown_at bytes k 6;
}

abbrev pub shown_energy : List ℕ → ℕ
shown_energy bytes = shown_at bytes (shown_lines bytes) 0

abbrev pub shown_total : List ℕ → ℕ
shown_total bytes = shown_at bytes (shown_lines bytes) 1

-- line k shows a notice: its day, its first hour and its end
pub record ShowsNotice (bytes : List ℕ) (k : ℕ) (n : Notice) : Type 0 where
  pub day : shown_at bytes k 0 ≡ n.day
  pub start : shown_at bytes k 1 ≡ n.start
  pub end : shown_at bytes k 2 ≡ n.end
