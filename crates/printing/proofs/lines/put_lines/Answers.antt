-- What is left to show of `put_lines`, by the invariant in `Invariants.antt`.
-- Assumes nothing.
use Prim.Native.Nat.{ℕ, ◌+◌}
use mathlib.Core.List.{List, [], ◌∷◌}
use native.Mathlib.Numerals.{add-one}
use native.Mathlib.Omega.{arith}
use Rattle.laws.proofs.RowLaws.{rows_none, rows_more}
use Rattle.numerals.specs.Lines.{line_bytes, bytes_of_lines}
use Rattle.numerals.specs.Put.{Put}
use Rattle.printing.specs.Sheet.{notice_line, notice_lines}
use Rattle.numerals.proofs.PutLaws.{put_none, put_last, put_both}
use Rattle.printing.proofs.lines.put_lines.Goals as goal

-- a turn: one line more
lines_next : (l out : List ℕ) (k : ℕ) {before now after : List ℕ} {i p q : ℕ} → Put before i (bytes_of_lines (notice_lines l out k)) p now
    → Put now p (line_bytes (notice_line l out k)) q after
    → Put before i (bytes_of_lines (notice_lines l out (k + 1))) q after
lines_next l out k a b =
    rw (add-one k, rows_more (λ (i : ℕ). notice_line l out i ∷ []) k)
    (put_both (notice_lines l out k) (notice_line l out k ∷ []) a (put_last _ b))

-- before the first turn
lines_none : (l out before : List ℕ) (i : ℕ) → Put before i (bytes_of_lines (notice_lines l out 0)) i before
lines_none l out before i = rw (rows_none (λ (k : ℕ). notice_line l out k ∷ [])) (put_none before i)

pub loop-k-init : goal.loop-k-init
loop-k-init c = (omega arith, lines_none _ _ _ _)

pub loop-k-preserved : goal.loop-k-preserved
loop-k-preserved c = (omega arith, lines_next _ _ c.loop-k.k c.loop-k.invariant.1 c.put_notice-next.ensures.put)
