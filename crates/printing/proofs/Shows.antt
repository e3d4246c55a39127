-- What is printed shows its numbers: the front of the output is the statement or the line, the numbers that stand in it are those that were to
-- be printed, and so equal statements come from equal numbers.
-- Assumes nothing.
use Prim.Native.Nat.{ℕ, zero, suc, ◌+◌, ◌*◌, ◌<◌}
use mathlib.Core.Bool.{Bool, false}
use mathlib.Core.List.{List, [], ◌∷◌, ◌++◌}
use mathlib.Core.Path.{◌≡◌, refl, sym, ap, ◌∙◌}
use lib.ListN.{length, take, drop, get_or}
use lib.Seq.{take_at, get_or-append-add}
use Rattle.laws.proofs.Every.{Every, joined}
use Rattle.laws.proofs.RowLaws.{Wide, rows_none, rows_more, rows_long, row_in, rows_same, parts_same, all_rows}
use Rattle.laws.specs.Rows.{rows_to}
use Rattle.notices.specs.Notices.{count_of}
use Rattle.numerals.specs.Lines.{Line, line}
use Rattle.numerals.specs.Numbers.{numbers_in, numbers_of, numbers_of_lines}
use Rattle.numerals.proofs.ReadBack.{Plain, read_back, plain_line, number_back_lem, numbers_back, numbers_none, numbers_one, numbers_more, numbers_append}
use Rattle.printing.specs.Room.{printed, printed_count}
use Rattle.printing.specs.Sheet.{refused_lines, refused_bytes, numbers_at, notice_line, notice_lines, statement_lines, statement_bytes}

-- so many bytes as are answered, from the front of the output, are what was to be printed
pub shown : (bytes out : List ℕ) {cannot : Bool} → cannot ≡ false → take (printed_count cannot bytes) (printed cannot bytes out) ≡ bytes
unfolding printed printed_count
shown bytes out e = rw e (take_at bytes (drop (length bytes) out) (length bytes) refl)

-- a refused text
pub refused_numbers : (number place : ℕ) → numbers_in (refused_bytes number place) ≡ number ∷ place ∷ []
unfolding refused_lines
refused_numbers number place =
    read_back (refused_lines number place) (plain_line "refused=" (number ∷ place ∷ []) refl, tt) ∙ numbers_one _ ∙ numbers_back (number ∷ place ∷ [])

pub refused_same : (n m p q : ℕ) → refused_bytes n p ≡ refused_bytes m q → (n ≡ m) × (p ≡ q)
refused_same n m p q e =
    let s : ◌≡◌ {A = List ℕ} (n ∷ p ∷ []) (m ∷ q ∷ []) = sym (refused_numbers n p) ∙ ap numbers_in e ∙ refused_numbers m q in
    (cc, cc)

-- the numbers of a statement: winter, price and number of notices, seven numbers a notice, total energy and total cents
abbrev pub shown_numbers : ℕ → ℕ → List ℕ → List ℕ → ℕ → ℕ → List ℕ
shown_numbers w p l out energy cents = w ∷ p ∷ count_of l ∷ (numbers_of_lines (notice_lines l out (count_of l)) ++ (energy ∷ cents ∷ []))

module _ (l out : List ℕ) where
  abbrev line_row : ℕ → List Line
  line_row k = notice_line l out k ∷ []

  abbrev number_row : ℕ → List ℕ
  number_row k = numbers_of (notice_line l out k)

  lines_plain : (k : ℕ) → Every Plain (notice_lines l out k)
  unfolding notice_line
  lines_plain n = all_rows Plain line_row n (λ k h. (plain_line "line=" (numbers_at l out k) refl, tt))

  -- the numbers of the lines are rows of seven
  sevens : (k : ℕ) → numbers_of_lines (notice_lines l out k) ≡ rows_to number_row k
  sevens zero = rw (rows_none line_row, rows_none number_row) numbers_none
  sevens (suc k) =
      rw (rows_more line_row k, rows_more number_row k, numbers_append (notice_lines l out k) (line_row k), numbers_one (notice_line l out k), sevens k)

  seven_wide : Wide 7 number_row
  unfolding notice_line
  seven_wide = record { long = λ k. refl }

  sevens_long : (k : ℕ) → length (numbers_of_lines (notice_lines l out k)) ≡ 7 * k
  sevens_long k = ap length (sevens k) ∙ rows_long seven_wide k

module _ (w p : ℕ) (l out : List ℕ) (energy cents : ℕ) where
  statement_plain : Every Plain (statement_lines w p l out energy cents)
  unfolding statement_lines
  statement_plain =
      let energy_line = plain_line "energy=" (energy ∷ []) refl in
      let total_line = plain_line "total=" (cents ∷ []) refl in
      let totals = line "energy=" (energy ∷ []) ∷ line "total=" (cents ∷ []) ∷ [] in
      let body = joined Plain (notice_lines l out (count_of l)) totals (lines_plain l out (count_of l)) (energy_line, (total_line, tt)) in
      (plain_line "winter=" (w ∷ []) refl, (plain_line "price=" (p ∷ []) refl, (plain_line "events=" (count_of l ∷ []) refl, body)))

  pub statement_numbers : numbers_in (statement_bytes w p l out energy cents) ≡ shown_numbers w p l out energy cents
  unfolding statement_lines
  statement_numbers =
      read_back (statement_lines w p l out energy cents) statement_plain ∙ simp (numbers_one, numbers_more, numbers_append, number_back_lem)

-- what stands at an index of these numbers: number j of line k, and behind the lines the totals
module _ (w p : ℕ) (l out : List ℕ) (energy cents : ℕ) where
  abbrev shows : ℕ → ℕ
  shows i = get_or (shown_numbers w p l out energy cents) i 0

  abbrev of_lines : List ℕ
  of_lines = numbers_of_lines (notice_lines l out (count_of l))

  behind_head : (i : ℕ) → shows (3 + i) ≡ get_or (of_lines ++ (energy ∷ cents ∷ [])) i 0
  behind_head i = get_or-append-add (w ∷ p ∷ count_of l ∷ []) (of_lines ++ (energy ∷ cents ∷ [])) i 0

  pub shown_line : (k j : ℕ) → k < count_of l → j < 7 → shows (3 + (7 * k + j)) ≡ get_or (numbers_at l out k) j 0
  unfolding notice_line
  shown_line k j h b =
      behind_head (7 * k + j)
      ∙ rw (sevens l out (count_of l)) (row_in (seven_wide l out) (energy ∷ cents ∷ []) (count_of l) k j h b)
      ∙ ap (λ (ns : List ℕ). get_or ns j 0) (numbers_back (numbers_at l out k))

  pub shown_total_lem : (j : ℕ) → shows (3 + (7 * count_of l + j)) ≡ get_or (energy ∷ cents ∷ []) j 0
  shown_total_lem j =
      behind_head (7 * count_of l + j)
      ∙ rw (← sevens_long l out (count_of l)) (get_or-append-add of_lines (energy ∷ cents ∷ []) j 0)

module _ (l l' out out' : List ℕ) where
  -- equal numbers of n notices are equal notice by notice
  sevens_same : (n k : ℕ) → k < n → numbers_of_lines (notice_lines l out n) ≡ numbers_of_lines (notice_lines l' out' n)
      → numbers_of (notice_line l out k) ≡ numbers_of (notice_line l' out' k)
  sevens_same n k h e = rows_same (seven_wide l out) (seven_wide l' out') n k h (sym (sevens l out n) ∙ e ∙ sevens l' out' n)

  -- equal statements: winter, price and totals are equal, and there are as many notices, with the same seven numbers each
  pub statement_same : (w w' p p' energy energy' cents cents' : ℕ) → statement_bytes w p l out energy cents ≡ statement_bytes w' p' l' out' energy' cents'
      → (w ≡ w')
      × (p ≡ p')
      × (count_of l ≡ count_of l')
      × ((k : ℕ) → k < count_of l → numbers_of (notice_line l out k) ≡ numbers_of (notice_line l' out' k))
      × (energy ≡ energy')
      × (cents ≡ cents')
  statement_same w w' p p' energy energy' cents cents' e =
      let s : shown_numbers w p l out energy cents ≡ shown_numbers w' p' l' out' energy' cents'
      = sym (statement_numbers w p l out energy cents) ∙ ap numbers_in e ∙ statement_numbers w' p' l' out' energy' cents' in
      let xs = numbers_of_lines (notice_lines l out (count_of l)) in
      let ys = numbers_of_lines (notice_lines l' out' (count_of l')) in
      let n : count_of l ≡ count_of l' = cc in
      let long : length xs ≡ length ys = sevens_long l out (count_of l) ∙ ap (λ (k : ℕ). 7 * k) n ∙ sym (sevens_long l' out' (count_of l')) in
      let q = parts_same xs (energy ∷ cents ∷ []) ys (energy' ∷ cents' ∷ []) long (cc) in
      let t = q.1 in
      (cc, cc, n, λ k h. sevens_same (count_of l) k h (q.0 ∙ ap (λ (m : ℕ). numbers_of_lines (notice_lines l' out' m)) (sym n)), cc, cc)
