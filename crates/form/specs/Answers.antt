-- What the question for a text's form answers on paper, and the number and values of each case: what a text that has the form says beside its
-- notices and readings, with 0 where no line is misplaced, or 30 at the first line that breaks it.
-- Assumes nothing.
use Rattle.std.specs.Prelude.{ℕ, zero, suc, List, [], ◌∷◌, Option, Some, None, Result, Ok, Err}
use Rattle.laws.specs.Answer.{Answer, given}
use Rattle.laws.specs.Table.{refusal_at}
use Rattle.form.specs.Form.{form_of}
use Rattle.form.specs.declared.lines.BrokenLine.{BrokenLine}
use Rattle.form.specs.declared.whole.Shape.{Shape}

-- the value that tells the misplaced line: 0 for none, else the line. Lines are counted from 1, so that no text has a line 0: no value tells that
-- one, and two lines are never told alike
abbrev pub misplaced_told : Option ℕ → List ℕ
misplaced_told None = 0 ∷ []
misplaced_told (Some zero) = []
misplaced_told (Some (suc k)) = suc k ∷ []

-- the paper's number and values for each case (rule 4.17)
abbrev pub form_paper : Result Shape BrokenLine → Answer
form_paper (Ok f) = given (f.winter ∷ f.price ∷ f.events ∷ misplaced_told f.misplaced)
form_paper (Err broken) = refusal_at 30 broken.line

-- what the call answers
unfoldable pub form_answer : List ℕ → Answer
form_answer s = form_paper (form_of s)
