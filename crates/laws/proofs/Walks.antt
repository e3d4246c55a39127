-- Laws of a table that has some rows for each index, one index after another: no row is broken exactly when none of any index is, and what a
-- loop over the indices needs. The loop's invariant: the rows before index k are looked at, and none is broken.
-- Assumes nothing.
use Prim.Native.Nat.{ℕ, zero, suc, ◌+◌, ◌≤◌, ◌<◌}
use mathlib.Core.Bool.{true, false}
use mathlib.Core.List.{List}
use mathlib.Core.Logic.{⊎_elim, ◌↔◌}
use mathlib.Core.Path.{◌≡◌, sym, ap, ◌∙◌}
use native.Mathlib.Nat.{eq-or-lt_of_le, le_of_suc-le-suc}
use native.Mathlib.Numerals.{add-one}
use native.Mathlib.Omega.{arith}
use Rattle.laws.specs.Answer.{Answer}
use Rattle.laws.specs.Rows.{rows_to}
use Rattle.laws.specs.Table.{accepted, Row, first_of, is_refusal}
use Rattle.laws.proofs.Every.{joined}
use Rattle.laws.proofs.RowLaws.{rows_none, rows_more, each_row, all_rows}
use Rattle.laws.proofs.Tables.{Numbered, NoneBroken, unrefused_none, none_accepted, part_stops, part_goes}

-- of n indices those before index k are looked at, and no row of theirs is broken
pub record Walked (rows_at : ℕ → List Row) (n k : ℕ) : Type 0 where
  pub within : k ≤ n
  pub kept : NoneBroken (rows_to rows_at k)

module _ (rows_at : ℕ → List Row) where
  abbrev table : ℕ → Answer
  table n = first_of (rows_to rows_at n)

  pub none_iff_each : (n : ℕ) → NoneBroken (rows_to rows_at n) ↔ ((k : ℕ) → k < n → NoneBroken (rows_at k))
  none_iff_each n = (each_row (λ (r : Row). r.broken ≡ false) rows_at n, all_rows (λ (r : Row). r.broken ≡ false) rows_at n)

  -- one index more: a table that refuses stays as it is, and past one that is kept the index's own rows decide
  more_stops : (n : ℕ) → is_refusal (table n) ≡ true → table n ≡ table (suc n)
  more_stops n e = rw (rows_more rows_at n) (part_stops (rows_to rows_at n) (rows_at n) e)

  more_goes : (n : ℕ) → NoneBroken (rows_to rows_at n) → first_of (rows_at n) ≡ table (suc n)
  more_goes n t = rw (rows_more rows_at n) (part_goes (rows_to rows_at n) (rows_at n) t)

  stops_at : (n k : ℕ) → k < n → NoneBroken (rows_to rows_at k) → is_refusal (first_of (rows_at k)) ≡ true → first_of (rows_at k) ≡ table n
  stops_at zero k h t e = absurd (omega arith)
  stops_at (suc n) k h t e =
      ⊎_elim
      (λ (q : k ≡ n). rw q (more_goes n (rw q at t)))
      (λ (q : k < n). let s = stops_at n k q t e in s ∙ more_stops n (ap is_refusal (sym s) ∙ e))
      (eq-or-lt_of_le (le_of_suc-le-suc h))

  module _ (numbered : (k : ℕ) → Numbered (rows_at k)) where
    pub walk_numbered : (n : ℕ) → Numbered (rows_to rows_at n)
    walk_numbered n = all_rows (λ (r : Row). 1 ≤ r.number) rows_at n (λ k h. numbered k)

-- a loop over the indices: before the first turn, after a turn that does not refuse, and the two ways out
module _ {rows_at : ℕ → List Row} {n : ℕ} where
  pub walked_none : Walked rows_at n 0
  walked_none = record { within = omega arith; kept = rw (rows_none rows_at) tt }

  module _ {k : ℕ} (h : Walked rows_at n k) where
    pub walked_all : n ≤ k → accepted ≡ first_of (rows_to rows_at n)
    walked_all e = let q : k ≡ n = omega (arith, h.within) in sym (none_accepted (rows_to rows_at n) (rw q at h.kept))

    module _ {a : Answer} (said : a ≡ first_of (rows_at k)) (e : k < n) where
      pub walked_next : Numbered (rows_at k) → is_refusal a ≡ false → Walked rows_at n (k + 1)
      walked_next numbered t =
          let here = unrefused_none (rows_at k) numbered (ap is_refusal (sym said) ∙ t) in
          rw add-one (record {
            within = e;
            kept = rw (rows_more rows_at k) (joined (λ (r : Row). r.broken ≡ false) (rows_to rows_at k) (rows_at k) h.kept here);
          })

      pub walked_stop : is_refusal a ≡ true → a ≡ first_of (rows_to rows_at n)
      walked_stop t = said ∙ stops_at rows_at n k e h.kept (ap is_refusal (sym said) ∙ t)
