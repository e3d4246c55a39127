-- What is printed: the statement of a settlement, or the line of a refused text.
-- Assumes nothing.
use Rattle.std.specs.Prelude.{ℕ, List, [], ◌∷◌, ◌++◌}
use Rattle.credit.specs.Printed.{line_in}
use Rattle.laws.specs.Rows.{rows_to}
use Rattle.notices.specs.Notices.{count_of, notice_at}
use Rattle.numerals.specs.Lines.{Line, line, bytes_of_lines}

-- rule 8.13: the one line of a refusal
unfoldable pub refused_lines : ℕ → ℕ → List Line
refused_lines number place = line "refused=" (number ∷ place ∷ []) ∷ []

-- rule 8.12: the seven fields of the notice at index k, from the list and the settlement's output
abbrev pub numbers_at : List ℕ → List ℕ → ℕ → List ℕ
numbers_at l out k = (notice_at l k).day ∷ (notice_at l k).start ∷ (notice_at l k).end ∷ line_in out k

unfoldable pub notice_line : List ℕ → List ℕ → ℕ → Line
notice_line l out k = line "line=" (numbers_at l out k)

-- the lines of the first k notices
abbrev pub notice_lines : List ℕ → List ℕ → ℕ → List Line
notice_lines l out = rows_to (λ (k : ℕ). notice_line l out k ∷ [])

-- rule 8.11: all lines of a statement
unfoldable pub statement_lines : ℕ → ℕ → List ℕ → List ℕ → ℕ → ℕ → List Line
statement_lines winter price l out energy cents =
    line "winter=" (winter ∷ [])
    ∷ line "price=" (price ∷ [])
    ∷ line "events=" (count_of l ∷ [])
    ∷ (notice_lines l out (count_of l) ++ (line "energy=" (energy ∷ []) ∷ line "total=" (cents ∷ []) ∷ []))

-- as bytes
abbrev pub refused_bytes : ℕ → ℕ → List ℕ
refused_bytes number place = bytes_of_lines (refused_lines number place)

abbrev pub statement_bytes : ℕ → ℕ → List ℕ → List ℕ → ℕ → ℕ → List ℕ
statement_bytes winter price l out energy cents = bytes_of_lines (statement_lines winter price l out energy cents)
