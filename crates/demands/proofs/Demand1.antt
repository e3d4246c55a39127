-- Demand 1: whatever is asked is answered, and the answer is told by one table: number and place are 0 where no row of it is broken, and else
-- those of the first broken row (`Tells`). Beside a refusal all that was lent is as it was.
-- Assumes nothing.
use Prim.Native.Nat.{ℕ, ◌+◌, ◌/◌, ◌%◌, ◌≤◌, ◌<◌}
use mathlib.Core.List.{List, [], ◌∷◌}
use mathlib.Core.Path.{◌≡◌}
use lib.ListN.{length}
use Rattle.boundary.proofs.Told.{check_told, settle_told, refused_unwritten}
use Rattle.boundary.specs.Calls.{check_call, settle_call, settle_bytes}
use Rattle.wire.specs.Decoded.{decoded}
use Rattle.credit.proofs.Exact.{settlement_tells, refused_untouched, refused_totals}
use Rattle.credit.specs.Refusals.{settlement_table}
use Rattle.credit.specs.Settlement.{settlement, written}
use Rattle.dates.specs.Winters.{days}
use Rattle.form.proofs.Misplaced.{MisplacedTells, misplaced_tells}
use Rattle.form.specs.Document.{Document}
use Rattle.form.specs.Places.{misplaced_line_in}
use Rattle.laws.proofs.Tells.{Tells, place_in}
use Rattle.numerals.specs.Numbers.{numbers_in}
use Rattle.schedule.proofs.Accepted.{check_tells}
use Rattle.schedule.specs.ListCheck.{check_table, check_answer}
use Rattle.text.proofs.Told.{TextTold, text_told, refused_shown, answer_there, none_there}
use Rattle.text.specs.Refusals.{text_refusal}
use Rattle.text.specs.Statement.{statement_of, answer_room, starts_with, answered_in}

-- the list check, on numbers
pub check_answers : (winter profile : ℕ) (list : List ℕ)
    → Tells (check_table winter profile list) (check_answer winter profile list).number (place_in (check_answer winter profile list))
check_answers = check_tells

-- the list check from C: number and place are read off the one number that it answers
pub check_answers_c : (winter profile : ℕ) (list : List ℕ)
    → Tells (check_table winter profile (decoded list)) (check_call winter profile list / 65536) (check_call winter profile list % 65536)
check_answers_c winter profile list =
    let told = check_told winter profile list in
    rw (told.0, told.1) (check_tells winter profile (decoded list))

-- the settlement, on numbers; a refusal leaves the output as it was and totals of 0
module _ (winter price : ℕ) (book list out : List ℕ) where
  pub settle_answers : Tells (settlement_table winter (length book) price list (length out)) (settlement winter book price list (length out)).number
      (settlement winter book price list (length out)).place
  settle_answers = settlement_tells winter price book list (length out)

  module _ (refused : (settlement winter book price list (length out)).number ≡ 0 → ⊥) where
    pub settle_writes_nothing : written winter book price list out ≡ out
    settle_writes_nothing = refused_untouched winter price book list out refused

    pub settle_no_totals : ((settlement winter book price list (length out)).energy ≡ 0) × ((settlement winter book price list (length out)).cents ≡ 0)
    settle_no_totals = refused_totals winter price book list out refused

-- the settlement from C, of lent bytes
module _ (winter price : ℕ) (book list out : List ℕ) where
  pub settle_answers_c : Tells (settlement_table winter (length (decoded book)) price (decoded list) (length out / 8))
      (settle_call winter book price list (length out) / 65536) (settle_call winter book price list (length out) % 65536)
  settle_answers_c =
      let told = settle_told winter price book list out in
      rw (told.0, told.1) (settlement_tells winter price (decoded book) (decoded list) (length out / 8))

  pub settle_writes_nothing_c : (settle_call winter book price list (length out) ≡ 0 → ⊥) → settle_bytes winter book price list out ≡ out
  settle_writes_nothing_c = refused_unwritten winter price book list out

-- a text: from the text to number and place (`TextTold`), which are all that a refused text prints
pub text_answers : (text : List ℕ) → TextTold text (text_refusal text).number (place_in (text_refusal text))
text_answers = text_told

pub text_shows : (text : List ℕ) → ((text_refusal text).number ≡ 0 → ⊥)
    → numbers_in (statement_of text) ≡ (text_refusal text).number ∷ place_in (text_refusal text) ∷ []
text_shows = refused_shown

-- the line of 31 is that of the first read line which is outside the book or its day, or starts before the end of the one before; the read lines
-- stand behind the event lines and four lines more
pub text_misplaced : (d : Document)
    → MisplacedTells (days d.winter) 0 d.reads (length d.events + 4 + 1) (misplaced_line_in (days d.winter) d)
text_misplaced d = misplaced_tells (days d.winter) d.reads (length d.events + 4 + 1) 0

-- the call on a text leaves its answer at the front of the output and the rest as it was; where that has no room for every answer, all of it
pub text_writes : (text out : List ℕ) → answer_room ≤ length out → answered_in text out ≡ starts_with (statement_of text) out
text_writes text out h = (answer_there text out h).1

pub text_writes_nothing : (text out : List ℕ) → length out < answer_room → answered_in text out ≡ out
text_writes_nothing text out h = (none_there text out h).1
