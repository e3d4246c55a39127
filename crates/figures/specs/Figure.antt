-- A figure of RULES.md on both sides: what the page says, and what the definitions give.
-- Assumes nothing.
use Rattle.laws.specs.Answer.{Answer}

pub record Figure : Type 0 where
  pub paper : Answer
  pub computed : Answer

abbrev pub figure : Answer → Answer → Figure
figure p c = record { paper = p; computed = c }
