-- An answer on paper, rule 4.25: a refusal number, 0 if there is none, and the values beside it. What a call answers by cases has both for each.
-- Assumes nothing.
use Rattle.std.specs.Prelude.{ℕ, Bool, true, false, List, []}

pub record Answer : Type 0 where
  pub number : ℕ
  pub values : List ℕ

-- rule 4.1: an accepted call's number is 0
abbrev pub given : List ℕ → Answer
given vs = record { number = 0; values = vs }

-- a refusal has its number and no values (rule 4.25)
abbrev pub refusal : ℕ → Answer
refusal n = record { number = n; values = [] }

-- the refusal where the fault is there, else what comes after it: a column of these reads like the table of refusals
unfoldable pub refuse : Bool → Answer → Answer → Answer
refuse true refused rest = refused
refuse false refused rest = rest

-- a yes or no as a value: 1 or 0
abbrev pub bit : Bool → ℕ
bit true = 1
bit false = 0
