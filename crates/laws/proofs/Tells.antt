-- What a table of refusals tells by the number and the place that are answered: nothing is refused where no row is broken, and what is refused
-- is the first row that is.
-- Assumes nothing.
use Prim.Native.Nat.{ℕ, ◌≤◌}
use mathlib.Core.Bool.{Bool, true, false}
use mathlib.Core.List.{List, ◌∷◌, ◌++◌}
use mathlib.Core.Logic.{◌⊎◌, inl, inr}
use mathlib.Core.Path.{◌≡◌, refl, ap, ◌∙◌}
use lib.ListN.{get_or}
use Rattle.laws.specs.Answer.{Answer}
use Rattle.laws.specs.Table.{Row, row, first_of, is_refusal}
use Rattle.laws.proofs.Every.{right}
use Rattle.laws.proofs.Tables.{Numbered, NoneBroken, first_broken, unrefused_none, none_accepted}

-- no row is broken, and number and place are 0
pub record Accepts (rows : List Row) (number place : ℕ) : Type 0 where
  pub none_broken : NoneBroken rows
  pub number_none : number ≡ 0
  pub place_none : place ≡ 0

-- number and place are those of a broken row, and no row before it is broken
pub record Refuses (rows : List Row) (number place : ℕ) : Type 0 where
  pub before : List Row
  pub after : List Row
  pub rows_are : rows ≡ before ++ (row number place true ∷ after)
  pub kept_before : NoneBroken before
  pub from_one : 1 ≤ number

abbrev pub Tells : List Row → ℕ → ℕ → Type 0
Tells rows number place = Accepts rows number place ⊎ Refuses rows number place

-- the place beside a number
abbrev pub place_in : Answer → ℕ
place_in a = get_or a.values 0 0

pub table_tells : (rows : List Row) → Numbered rows → (a : Answer) → a ≡ first_of rows → Tells rows a.number (place_in a)
table_tells rows numbered a e = by (is_refusal (first_of rows)) refl
  where
    by : (b : Bool) → is_refusal (first_of rows) ≡ b → Tells rows a.number (place_in a)
    by false q =
        let none = unrefused_none rows numbered q in
        let is = e ∙ none_accepted rows none in
        inl (record { none_broken = none; number_none = ap (λ (x : Answer). x.number) is; place_none = ap place_in is })
    by true q =
        let first = first_broken rows q in
        let is = e ∙ first.answer in
        let number = ap (λ (x : Answer). x.number) is in
        let place = ap place_in is in
        let from_it = right (λ (r : Row). 1 ≤ r.number) first.before (row first.number first.place true ∷ first.after)
        (rw first.rows_are at numbered) in
        inr (record {
          before = first.before;
          after = first.after;
          rows_are = rw (number, place) first.rows_are;
          kept_before = first.kept_before;
          from_one = rw number from_it.0;
        })
