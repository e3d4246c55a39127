-- Laws of tables of refusals: a table accepts exactly when no row is broken, what it refuses is its first broken row, a table in two parts, of
-- which the first may be told by a number alone, and numbers and places stay within those of the rows.
-- Assumes nothing.
use Prim.Native.Nat.{ℕ, ◌≤◌}
use mathlib.Core.Bool.{Bool, true, false, true≢false}
use mathlib.Core.List.{List, [], ◌∷◌, ◌++◌}
use mathlib.Core.Path.{◌≡◌, refl, sym, ap, ◌∙◌}
use native.Mathlib.Omega.{arith}
use lib.Dec.{eqb}
use lib.ListN.{get_or}
use borrow.Author.Tests.{eqb-true, ne_eqb, not-false}
use Rattle.laws.specs.Answer.{Answer, refuse}
use Rattle.laws.specs.Bounds.{largest_number, largest_place}
use Rattle.laws.specs.Table.{accepted, refusal_at, Row, row, told_by, first_of, is_refusal}
use Rattle.laws.proofs.Every.{Every}
use Rattle.laws.proofs.Refusals.{refused, kept}

-- the numbers of a table's rows are refusal numbers
abbrev pub Numbered : List Row → Type 0
Numbered = Every (λ (r : Row). 1 ≤ r.number)

-- no row of a table is broken
abbrev pub NoneBroken : List Row → Type 0
NoneBroken = Every (λ (r : Row). r.broken ≡ false)

-- a table row by row: a broken row decides, past one that is kept the rest does, and past the last nothing is refused
pub row_stops : (r : Row) (rows : List Row) → r.broken ≡ true → told_by r ≡ first_of (r ∷ rows)
unfolding first_of
row_stops r rows e = refused _ _ e

pub row_goes : (r : Row) (rows : List Row) {a : Answer} → r.broken ≡ false → a ≡ first_of rows → a ≡ first_of (r ∷ rows)
unfolding first_of
row_goes r rows e q = kept _ e q

pub rows_end : accepted ≡ first_of []
unfolding first_of
rows_end = refl

-- a table accepts exactly when no row is broken
none_here : (r : Row) (rows : List Row) → 1 ≤ r.number → (is_refusal (first_of rows) ≡ false → NoneBroken rows)
    → (b : Bool) → r.broken ≡ b → is_refusal (refuse b (told_by r) (first_of rows)) ≡ false → NoneBroken (r ∷ rows)
unfolding refuse
none_here r rows n rest true q e = let z : r.number ≡ 0 = eqb-true r.number 0 (not-false (eqb r.number 0) e) in absurd (omega arith)
none_here r rows n rest false q e = (q, rest e)

pub unrefused_none : (rows : List Row) → Numbered rows → is_refusal (first_of rows) ≡ false → NoneBroken rows
unfolding first_of
unrefused_none [] n e = tt
unrefused_none (r ∷ rows) n e = none_here r rows n.0 (unrefused_none rows n.1) r.broken refl e

pub accepted_none : (rows : List Row) → Numbered rows → first_of rows ≡ accepted → NoneBroken rows
accepted_none rows n e = unrefused_none rows n (ap is_refusal e)

pub none_accepted : (rows : List Row) → NoneBroken rows → first_of rows ≡ accepted
unfolding first_of refuse
none_accepted [] t = refl
none_accepted (r ∷ rows) t = rw t.0 (none_accepted rows t.1)

pub unrefused_accepted : (rows : List Row) → Numbered rows → is_refusal (first_of rows) ≡ false → first_of rows ≡ accepted
unrefused_accepted rows n e = none_accepted rows (unrefused_none rows n e)

-- the first broken row: its number and place are what is answered, and no row before it is broken
pub record FirstBroken (rows : List Row) : Type 0 where
  pub number : ℕ
  pub place : ℕ
  pub before : List Row
  pub after : List Row
  pub answer : first_of rows ≡ refusal_at number place
  pub rows_are : rows ≡ before ++ (row number place true ∷ after)
  pub kept_before : NoneBroken before

here_or_later : (r : Row) (rows : List Row) → (is_refusal (first_of rows) ≡ true → FirstBroken rows)
    → (b : Bool) → r.broken ≡ b → is_refusal (refuse b (told_by r) (first_of rows)) ≡ true → FirstBroken (r ∷ rows)
unfolding first_of refuse
here_or_later r rows later true q e =
    record {
      number = r.number;
      place = r.place;
      before = [];
      after = rows;
      answer = rw q;
      rows_are = ap (λ (b : Bool). row r.number r.place b ∷ rows) q;
      kept_before = tt;
    }
here_or_later r rows later false q e =
    let t = later e in
    record {
      number = t.number;
      place = t.place;
      before = r ∷ t.before;
      after = t.after;
      answer = rw q t.answer;
      rows_are = ap (λ (xs : List Row). r ∷ xs) t.rows_are;
      kept_before = (q, t.kept_before);
    }

pub first_broken : (rows : List Row) → is_refusal (first_of rows) ≡ true → FirstBroken rows
unfolding first_of
first_broken [] e = absurd (true≢false (sym e))
first_broken (r ∷ rows) e = here_or_later r rows (first_broken rows) r.broken refl e

-- a table in two parts: a first part that refuses decides, past one that is kept the second does, and what they answer is all that counts
stops_here : (r : Row) (rows more : List Row) → (is_refusal (first_of rows) ≡ true → first_of rows ≡ first_of (rows ++ more))
    → (b : Bool) → is_refusal (refuse b (told_by r) (first_of rows)) ≡ true
    → refuse b (told_by r) (first_of rows) ≡ refuse b (told_by r) (first_of (rows ++ more))
unfolding refuse
stops_here r rows more rest true e = refl
stops_here r rows more rest false e = rest e

pub part_stops : (rows more : List Row) → is_refusal (first_of rows) ≡ true → first_of rows ≡ first_of (rows ++ more)
unfolding first_of
part_stops [] more e = absurd (true≢false (sym e))
part_stops (r ∷ rows) more e = stops_here r rows more (part_stops rows more) r.broken e

pub part_goes : (rows more : List Row) → NoneBroken rows → first_of more ≡ first_of (rows ++ more)
part_goes [] more t = refl
part_goes (r ∷ rows) more t = row_goes r (rows ++ more) t.0 (part_goes rows more t.1)

pub parts_alike : (rows xs ys : List Row) → first_of xs ≡ first_of ys → first_of (rows ++ xs) ≡ first_of (rows ++ ys)
unfolding first_of
parts_alike [] xs ys e = e
parts_alike (r ∷ rows) xs ys e = rw (parts_alike rows xs ys e)

-- a part without places that a number tells: the number decides where it is a refusal's, and else no row of the part is broken
module _ (rows : List Row) (number : ℕ) (e : refusal_at number 0 ≡ first_of rows) where
  pub told_stops : (more : List Row) → (number ≡ 0 → ⊥) → refusal_at number 0 ≡ first_of (rows ++ more)
  told_stops more f = e ∙ part_stops rows more (rw (← e, ne_eqb number 0 f))

  pub told_none : Numbered rows → number ≡ 0 → NoneBroken rows
  told_none n z = unrefused_none rows n (rw (← e, z))

  pub told_goes : Numbered rows → number ≡ 0 → (more : List Row) → first_of more ≡ first_of (rows ++ more)
  told_goes n z more = part_goes rows more (told_none n z)

-- number and place of an answer, and those of all rows of a table, are bounded
abbrev pub Bounded : Answer → Type 0
Bounded a = (a.number ≤ largest_number) × (get_or a.values 0 0 ≤ largest_place)

abbrev pub RowsBounded : List Row → Type 0
RowsBounded = Every (λ (r : Row). (r.number ≤ largest_number) × (r.place ≤ largest_place))

bounded_here : (r : Row) (rest : Answer) → (r.number ≤ largest_number) × (r.place ≤ largest_place)
    → (b : Bool) → r.broken ≡ b → (r.broken ≡ false → Bounded rest) → Bounded (refuse b (told_by r) rest)
unfolding refuse
bounded_here r rest h true q g = h
bounded_here r rest h false q g = g q

-- a first part that is bounded, and a second that is where the first is kept
pub bounded_parts : (rows more : List Row) → RowsBounded rows → (NoneBroken rows → Bounded (first_of more)) → Bounded (first_of (rows ++ more))
unfolding first_of
bounded_parts [] more e g = g tt
bounded_parts (r ∷ rows) more e g = bounded_here r (first_of (rows ++ more)) e.0 r.broken refl (λ q. bounded_parts rows more e.1 (λ t. g (q, t)))

pub bounded_first : (rows : List Row) → RowsBounded rows → Bounded (first_of rows)
unfolding first_of
bounded_first [] e = (omega arith, omega arith)
bounded_first (r ∷ rows) e = bounded_here r (first_of rows) e.0 r.broken refl (λ q. bounded_first rows e.1)
