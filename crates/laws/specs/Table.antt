-- A table of refusals: rows that are tried in their order, each a number, the place that is told with it and whether its fault is there.
-- The place is 0 for a refusal of the call, an index for one of a list's parts, a line for one of a text. A table that has some rows for each
-- index, one index after another, is `rows_to` of those.
-- Assumes nothing.
use Rattle.std.specs.Prelude.{ℕ, Bool, not, List, [], ◌∷◌, eqb}
use Rattle.laws.specs.Answer.{Answer, refuse}

-- rule 4.1: number and place of an accepted call
abbrev pub accepted : Answer
accepted = record { number = 0; values = 0 ∷ [] }

-- a refusal with its place (rule 4.1)
abbrev pub refusal_at : ℕ → ℕ → Answer
refusal_at n place = record { number = n; values = place ∷ [] }

pub record Row : Type 0 where
  pub number : ℕ
  pub place : ℕ
  pub broken : Bool

abbrev pub row : ℕ → ℕ → Bool → Row
row n place b = record { number = n; place = place; broken = b }

-- the refusal that a broken row gives
abbrev pub told_by : Row → Answer
told_by r = refusal_at r.number r.place

-- the first row that is broken decides (rule 4.1)
unfoldable pub first_of : List Row → Answer
first_of [] = accepted
first_of (r ∷ rows) = refuse r.broken (told_by r) (first_of rows)

-- whether an answer is a refusal
abbrev pub is_refusal : Answer → Bool
is_refusal a = not (eqb a.number 0)
