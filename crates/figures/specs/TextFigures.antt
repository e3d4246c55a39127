-- The sample of rule 8.16: its text and its statement, byte by byte, and a text that is refused.
-- Assumes nothing.
use Rattle.std.specs.Prelude.{ℕ, List, [], ◌∷◌, ◌++◌}
use Prim.Native.String.{String}
use Rattle.laws.specs.Answer.{Answer, given}
use Rattle.numerals.specs.Words.{bytes_of, line_end}
use Rattle.laws.specs.Table.{accepted, refusal_at}
use Rattle.text.specs.Refusals.{text_refusal}
use Rattle.text.specs.Statement.{statement_of}
use Rattle.figures.specs.Figure.{Figure, figure}

-- lines as bytes, each with the byte that ends it
unfoldable pub bytes_in : List String → List ℕ
bytes_in [] = []
bytes_in (x ∷ xs) = bytes_of x ++ (line_end ∷ bytes_in xs)

-- the text
unfoldable pub sample_input : List String
sample_input =
    "winter=2026"
    ∷ "price=51967"
    ∷ "events=1"
    ∷ "event=38,6,9"
    ∷ "reads=12"
    ∷ "read=31,1,2000,2000,2000"
    ∷ "read=31,6,2000,2000,2000"
    ∷ "read=32,1,2100,2100,2100"
    ∷ "read=32,6,2100,2100,2100"
    ∷ "read=33,1,2200,2200,2200"
    ∷ "read=33,6,2200,2200,2200"
    ∷ "read=36,1,2300,2300,2300"
    ∷ "read=36,6,2300,2300,2300"
    ∷ "read=37,1,2400,2400,2400"
    ∷ "read=37,6,2400,2400,2400"
    ∷ "read=38,1,2500,2500,2500"
    ∷ "read=38,6,1000,1000,1000"
    ∷ []

-- its statement
unfoldable pub sample_output : List String
sample_output = "winter=2026" ∷ "price=51967" ∷ "events=1" ∷ "line=38,6,9,0,0,81000,234" ∷ "energy=81000" ∷ "total=234" ∷ []

-- a notice that a bounced contact gave twice (rule 8.16)
unfoldable pub twice : List String
twice = "winter=2026" ∷ "price=51967" ∷ "events=2" ∷ "event=38,6,9" ∷ "event=38,6,9" ∷ "reads=0" ∷ []

-- what is printed of a text
abbrev pub printed_of : List String → Answer
printed_of text = given (statement_of (bytes_in text))

unfoldable pub text_figures : List Figure
text_figures =
    figure (given (bytes_in sample_output)) (printed_of sample_input)
    -- rule 8.13: the second notice is refused, whose index is 1
    ∷ figure (given (bytes_in ("refused=15,1" ∷ []))) (printed_of twice)
    -- the sample is accepted, and the other refused
    ∷ figure accepted (text_refusal (bytes_in sample_input))
    ∷ figure (refusal_at 15 1) (text_refusal (bytes_in twice))
    ∷ []
