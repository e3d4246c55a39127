-- Laws of n lines of a kind, by the ways out and the turn of a loop over them.
-- Assumes nothing.
use Prim.Native.Nat.{ℕ, suc, ◌+◌, ◌-◌, ◌≤◌, ◌<◌}
use mathlib.Core.List.{[], ◌∷◌}
use mathlib.Core.Path.{◌≡◌, ap, ◌∙◌}
use native.Mathlib.Omega.{arith}
use Rattle.std.specs.Prelude.{Some, None, Ok}
use Rattle.numerals.specs.Fields.{after_step}
use Rattle.numerals.specs.Rows.{Read}
use Rattle.form.specs.Lines.{lines_end, lines_said, breaks}

-- n lines of a kind, of which k are done and the next stands at a position
module _ {A : Type 0} (one : ℕ → Read A) (n k at : ℕ) where
  pub lines_done : (line : ℕ) → n ≤ k → lines_end one (n - k) at line ≡ Ok at
  unfolding lines_end
  lines_done line h = let z : n - k ≡ 0 = omega arith in rw z

  pub said_done : n ≤ k → lines_said one (n - k) at ≡ []
  unfolding lines_said
  said_done h = let z : n - k ≡ 0 = omega arith in rw z

  module _ (h : k < n) where
    one_more : n - k ≡ suc (n - (k + 1))
    one_more = omega arith

    end_turn : (line : ℕ) → lines_end one (n - k) at line ≡ after_step (breaks line) (one at).end (λ p. lines_end one (n - (k + 1)) p (line + 1))
    unfolding lines_end
    end_turn line = ap (λ (m : ℕ). lines_end one m at line) one_more

    said_turn : lines_said one (n - k) at ≡ (one at).said ∷ after_step [] (one at).end (λ p. lines_said one (n - (k + 1)) p)
    unfolding lines_said
    said_turn = ap (λ (m : ℕ). lines_said one m at) one_more

    pub lines_bad : (line : ℕ) → (one at).end ≡ None → lines_end one (n - k) at line ≡ breaks line
    lines_bad line e = end_turn line ∙ rw e

    pub said_bad : (one at).end ≡ None → lines_said one (n - k) at ≡ (one at).said ∷ []
    said_bad e = said_turn ∙ rw e

    pub lines_more : (first : ℕ) {p : ℕ} → (one at).end ≡ Some p → lines_end one (n - k) at (first + k) ≡ lines_end one (n - (k + 1)) p (first + (k + 1))
    lines_more first e = let z : first + k + 1 ≡ first + (k + 1) = omega arith in end_turn (first + k) ∙ rw (e, z)

    pub said_more : {p : ℕ} → (one at).end ≡ Some p → lines_said one (n - k) at ≡ (one at).said ∷ lines_said one (n - (k + 1)) p
    said_more e = said_turn ∙ rw e
