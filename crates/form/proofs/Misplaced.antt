-- The first misplaced read line, without the recursion: which line it is, or that none is misplaced. By recursion on the lines, each of which is
-- the line before the next.
-- Assumes nothing.
use Prim.Native.Nat.{ℕ, zero, suc, ◌+◌, ◌<◌}
use mathlib.Core.Bool.{Bool, true, false, cond}
use mathlib.Core.List.{List, [], ◌∷◌}
use mathlib.Core.Logic.{◌⊎◌, inl, inr}
use mathlib.Core.Path.{◌≡◌, refl, ap, ◌∙◌}
use native.Mathlib.Omega.{arith}
use lib.ListN.{length, get_or}
use Rattle.std.specs.Prelude.{Option, Some, None}
use Rattle.form.specs.Document.{ReadLine}
use Rattle.form.specs.Places.{end_of, misplaced, misplaced_in}
use Rattle.form.proofs.Begins.{any_read}

-- where the line before line j ends; before the first line that is place `end`
abbrev pub end_before : ℕ → List ReadLine → ℕ → ℕ
end_before end xs zero = end
end_before end xs (suc j) = end_of (get_or xs j any_read)

-- whether line j is misplaced in a book of so many days
abbrev pub misplaced_at : ℕ → ℕ → List ReadLine → ℕ → Bool
misplaced_at days end xs j = misplaced days (end_before end xs j) (get_or xs j any_read)

-- line j is the first that is
pub record FirstMisplaced (days end : ℕ) (xs : List ReadLine) (j : ℕ) : Type 0 where
  pub among : j < length xs
  pub here : misplaced_at days end xs j ≡ true
  pub before : (i : ℕ) → i < j → misplaced_at days end xs i ≡ false

-- none is, and no line is told; or it is the first one's, where the lines are counted from k on
pub record NoneMisplaced (days end : ℕ) (xs : List ReadLine) (line : Option ℕ) : Type 0 where
  pub line_none : line ≡ None
  pub each : (i : ℕ) → i < length xs → misplaced_at days end xs i ≡ false

pub record OneMisplaced (days end : ℕ) (xs : List ReadLine) (k : ℕ) (line : Option ℕ) : Type 0 where
  pub index : ℕ
  pub first : FirstMisplaced days end xs index
  pub line_is : line ≡ Some (k + index)

abbrev pub MisplacedTells : ℕ → ℕ → List ReadLine → ℕ → Option ℕ → Type 0
MisplacedTells days end xs k line = NoneMisplaced days end xs line ⊎ OneMisplaced days end xs k line

module _ (days : ℕ) where
  -- a line behind another
  behind : (end : ℕ) (x : ReadLine) (xs : List ReadLine) (j : ℕ) → misplaced_at days end (x ∷ xs) (suc j) ≡ misplaced_at days (end_of x) xs j
  behind end x xs zero = refl
  behind end x xs (suc j) = refl

  module _ (end : ℕ) (x : ReadLine) (xs : List ReadLine) (placed : misplaced days end x ≡ false) where
    none_behind : ((i : ℕ) → i < length xs → misplaced_at days (end_of x) xs i ≡ false)
        → (i : ℕ) → i < length (x ∷ xs) → misplaced_at days end (x ∷ xs) i ≡ false
    none_behind none zero h = placed
    none_behind none (suc i) h = behind end x xs i ∙ none i (omega arith)

    first_behind : (j : ℕ) → FirstMisplaced days (end_of x) xs j → FirstMisplaced days end (x ∷ xs) (suc j)
    first_behind j f = record { among = omega (arith, f.among); here = behind end x xs j ∙ f.here; before = before }
      where
        before : (i : ℕ) → i < suc j → misplaced_at days end (x ∷ xs) i ≡ false
        before zero h = placed
        before (suc i) h = behind end x xs i ∙ f.before i (omega arith)

  pub misplaced_tells : (xs : List ReadLine) (k end : ℕ) → MisplacedTells days end xs k (misplaced_in days xs k end)
  unfolding misplaced_in
  misplaced_tells [] k end = inl (record { line_none = refl; each = λ i h. absurd (omega arith) })
  misplaced_tells (x ∷ xs) k end = by (misplaced days end x) refl (misplaced_tells xs (k + 1) (end_of x))
    where
      by : (b : Bool) → misplaced days end x ≡ b → MisplacedTells days (end_of x) xs (k + 1) (misplaced_in days xs (k + 1) (end_of x))
          → MisplacedTells days end (x ∷ xs) k (cond b (Some k) (misplaced_in days xs (k + 1) (end_of x)))
      by true e later =
          let z : k ≡ k + 0 = omega arith in
          inr (record { index = 0; first = record { among = omega arith; here = e; before = λ i h. absurd (omega arith) }; line_is = ap Some z })
      by false e (inl none) = inl (record { line_none = none.line_none; each = none_behind end x xs e none.each })
      by false e (inr one) =
          let z : k + 1 + one.index ≡ k + suc one.index = omega arith in
          inr (record { index = suc one.index; first = first_behind end x xs e one.index one.first; line_is = one.line_is ∙ ap Some z })
