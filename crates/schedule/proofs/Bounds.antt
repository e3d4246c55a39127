-- Bounds of the list check's answer.
-- Assumes nothing.
use Prim.Native.Nat.{ℕ, ◌≤◌}
use mathlib.Core.Bool.{false}
use mathlib.Core.List.{List, [], ◌∷◌}
use mathlib.Core.Path.{◌≡◌, sym, subst}
use native.Mathlib.Omega.{arith}
use lib.ListN.{length}
use Rattle.calendar.specs.WinterOf.{winter_of}
use Rattle.dates.specs.Winters.{no_winter}
use Rattle.laws.proofs.RowLaws.{all_rows}
use Rattle.laws.proofs.Tables.{Bounded, RowsBounded, bounded_first, bounded_parts}
use Rattle.laws.specs.Bounds.{largest_number, largest_place}
use Rattle.laws.specs.Table.{Row, row, first_of}
use Rattle.notices.specs.Notices.{count_of}
use Rattle.notices.specs.Profiles.{named}
use Rattle.notices.specs.declared.profiles.Figures.{Figures}
use Rattle.refusals.specs.Refusals.{number_of, place_of, verdict_paper}
use Rattle.refusals.specs.declared.refusal.Refusal.{Refusal}
use Rattle.std.specs.Prelude.{⊤, Result}
use Rattle.schedule.specs.ListCheck.{day_rows, list_rows, notice_rows, rows_at, notices_table, bad_list, no_profile, named_figures, check_table, check_answer}
use Rattle.schedule.proofs.Walk.{list_fits}

module _ (w : ℕ) (f : Figures) (l : List ℕ) where
  row_bounded : (k : ℕ) → k ≤ largest_place → RowsBounded (rows_at (winter_of w) f l k)
  unfolding rows_at notice_rows day_rows list_rows
  row_bounded k h = omega arith

  pub notices_bounded : bad_list (length l) ≡ false → Bounded (first_of (notices_table (winter_of w) f l))
  notices_bounded b =
      let few = (list_fits (length l) b).few in
      bounded_first (notices_table (winter_of w) f l)
      (all_rows (λ (r : Row). (r.number ≤ largest_number) × (r.place ≤ largest_place)) (rows_at (winter_of w) f l) (count_of l)
      (λ k h. row_bounded k (omega arith)))

pub check_bounded : (w : ℕ) (l : List ℕ) (q : ℕ) → Bounded (check_answer w q l)
unfolding check_answer check_table
check_bounded w l q =
    let f = named_figures (named q) in
    bounded_parts
    (row 1 0 (no_winter w) ∷ row 5 0 (no_profile (named q)) ∷ row 4 0 (bad_list (length l)) ∷ []) (notices_table (winter_of w) f l) (omega arith)
    (λ t. notices_bounded w f l t.1.1.0)

-- the same of a verdict
pub verdict_bounded : (w q : ℕ) (l : List ℕ) (v : Result ⊤ Refusal) → verdict_paper v ≡ check_answer w q l
    → (number_of v ≤ largest_number) × (place_of v ≤ largest_place)
verdict_bounded w q l v e = subst Bounded (sym e) (check_bounded w l q)
