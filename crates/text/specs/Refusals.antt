-- The refusals of a text, in the order of rule 4.23.
-- Assumes nothing.
use Rattle.std.specs.Prelude.{ℕ, List, ◌∷◌, ltb, length, Option}
use Rattle.std.specs.Option.{is_some, unwrap_or}
use Rattle.calendar.specs.WinterOf.{winter_of}
use Rattle.dates.specs.Winters.{no_winter}
use Rattle.form.specs.Form.{form_of, notices_said}
use Rattle.laws.specs.Answer.{Answer}
use Rattle.laws.specs.Table.{Row, row, first_of}
use Rattle.money.specs.Price.{bad_price}
use Rattle.notices.specs.Profiles.{figures_of}
use Rattle.notices.specs.declared.profiles.Profile.TheVariants.{Credit}
use Rattle.schedule.specs.ListCheck.{notices_table, bad_list}
use Rattle.text.specs.Values.{is_broken, broken_line, winter_said, price_said, misplaced_said}

-- rule 4.19: the longest text that is read
abbrev pub most_bytes : ℕ
most_bytes = 65536

-- by the values of a text that has the form: winter, the first misplaced line (rule 4.18), price and list
unfoldable pub value_rows : ℕ → Option ℕ → ℕ → List ℕ → List Row
value_rows w line p l =
    row 1 0 (no_winter w)
    ∷ row 31 (unwrap_or line 0) (is_some line)
    ∷ row 3 0 (bad_price p)
    ∷ row 4 0 (bad_list (length l))
    ∷ notices_table (winter_of w) (figures_of Credit) l

-- the whole table, and the first row of it that is broken; rule 4.17 comes before any value is looked at
unfoldable pub text_table : List ℕ → List Row
text_table s =
    row 32 0 (ltb most_bytes (length s))
    ∷ row 30 (broken_line (form_of s)) (is_broken (form_of s))
    ∷ value_rows (winter_said s) (misplaced_said s) (price_said s) (notices_said s)

unfoldable pub text_refusal : List ℕ → Answer
text_refusal s = first_of (text_table s)
