-- Lines of a kind, one after the other, where one line of the kind reads back as it is written, and what is read as one is written so: then
-- both hold of n lines, and what they say is what was written. Proved by recursion on the lines, and on how many there are.
-- Assumes nothing.
use Prim.Native.Nat.{ℕ, zero, suc, ◌+◌}
use mathlib.Core.List.{List, [], ◌∷◌, ◌++◌, append_assoc, map}
use mathlib.Core.Path.{◌≡◌, refl, ap, ◌∙◌}
use native.Mathlib.Omega.{arith}
use lib.ListN.{length, drop, length-append}
use Rattle.std.specs.Prelude.{Some, Ok}
use Rattle.laws.proofs.Every.{Every}
use Rattle.numerals.proofs.Here.{Here, here_none, here_then, past}
use Rattle.numerals.proofs.LineLaws.{lines_none, lines_more}
use Rattle.numerals.proofs.Ways.{after_step_lem}
use Rattle.numerals.specs.Lines.{Line, line_bytes, bytes_of_lines}
use Rattle.numerals.specs.Rows.{Read}
use Rattle.form.specs.Lines.{lines_end, lines_said, breaks}

-- broken lines are not whole
pub no_lines : (line q : ℕ) → breaks line ≡ Ok q → ⊥
no_lines line q e = let z : ◌≡◌ {A = ℕ} 0 1 = cc in omega arith

-- one line, and the lines after it
module _ (s r : List ℕ) (at : ℕ) (x : Line) (xs : List Line) (e : drop at s ≡ bytes_of_lines (x ∷ xs) ++ r) where
  pub first_line : drop at s ≡ line_bytes x ++ (bytes_of_lines xs ++ r)
  first_line = e ∙ ap (λ (l : List ℕ). l ++ r) (lines_more x xs) ∙ append_assoc (line_bytes x) (bytes_of_lines xs) r

  pub lines_after : drop (at + length (line_bytes x)) s ≡ bytes_of_lines xs ++ r
  lines_after = past s (line_bytes x) (bytes_of_lines xs ++ r) at first_line

lines_long : (at : ℕ) (x : Line) (xs : List Line) → at + length (line_bytes x) + length (bytes_of_lines xs) ≡ at + length (bytes_of_lines (x ∷ xs))
lines_long at x xs = omega (arith, ap length (lines_more x xs), length-append (line_bytes x) (bytes_of_lines xs))

none_long : (at : ℕ) → at ≡ at + length (bytes_of_lines [])
none_long at = omega (arith, ap length lines_none)

module _ (s : List ℕ) {X A : Type 0} (one : ℕ → Read A) (write : X → Line) (say : X → A) (Fits : X → Type 0) where
  -- a line at a position that is written so
  pub record LineWritten (at q : ℕ) : Type 0 where
    pub value : X
    pub fits : Fits value
    pub says : (one at).said ≡ say value
    pub here : Here s at (line_bytes (write value)) q

  pub record Kind : Type 0 where
    pub reads : (r : List ℕ) (at : ℕ) (x : X) → Fits x → drop at s ≡ line_bytes (write x) ++ r
        → one at ≡ record { said = say x; end = Some (at + length (line_bytes (write x))) }
    pub written : (at q : ℕ) → (one at).end ≡ Some q → LineWritten at q

  -- lines that are read back, and n lines that are written from a position on
  pub record LinesRead (xs : List X) (at line : ℕ) : Type 0 where
    pub ends : lines_end one (length xs) at line ≡ Ok (at + length (bytes_of_lines (map write xs)))
    pub say_them : lines_said one (length xs) at ≡ map say xs

  pub record LinesWritten (n at q : ℕ) : Type 0 where
    pub values : List X
    pub counted : length values ≡ n
    pub fit : Every Fits values
    pub say_them : lines_said one n at ≡ map say values
    pub here : Here s at (bytes_of_lines (map write values)) q

module _ {s : List ℕ} {X A : Type 0} {one : ℕ → Read A} {write : X → Line} {say : X → A} {Fits : X → Type 0} (kind : Kind s one write say Fits) where
  pub lines_read : (r : List ℕ) (xs : List X) (at line : ℕ) → Every Fits xs → drop at s ≡ bytes_of_lines (map write xs) ++ r
      → LinesRead s one write say Fits xs at line
  unfolding lines_end lines_said
  lines_read r [] at line fit e = record { ends = ap Ok (none_long at); say_them = refl }
  lines_read r (x ∷ xs) at line fit e =
      let next = at + length (line_bytes (write x)) in
      let here = kind.reads (bytes_of_lines (map write xs) ++ r) at x fit.0 (first_line s r at (write x) (map write xs) e) in
      let rest = lines_read r xs next (line + 1) fit.1 (lines_after s r at (write x) (map write xs) e) in
      record {
        ends = rw here (rest.ends ∙ ap Ok (lines_long at (write x) (map write xs)));
        say_them = rw (here, rest.say_them);
      }

  pub lines_written : (n at line q : ℕ) → lines_end one n at line ≡ Ok q → LinesWritten s one write say Fits n at q
  unfolding lines_end lines_said
  lines_written zero at line q e =
      let stays : q ≡ at = cc in
      record { values = []; counted = refl; fit = tt; say_them = refl; here = rw (stays, lines_none) (here_none s at) }
  lines_written (suc n) at line q e =
      after_step_lem (breaks line) (no_lines line q) (one at).end _ e
      (λ p is on.
      let w = kind.written at p is in
      let r = lines_written n p (line + 1) q on in
      record {
        values = w.value ∷ r.values;
        counted = omega (arith, r.counted);
        fit = (w.fits, r.fit);
        say_them = rw (is, w.says, r.say_them);
        here = rw lines_more (here_then w.here r.here);
      })
