-- Lines that stand in a text are read, so that what is broken does not stand there; lines that were read stand in the text; and lines of a
-- kind that break are whole up to one of them. Proved from what reads back and what is written so, of a key and a number and of lines of a
-- kind.
-- Assumes nothing.
use Prim.Native.Nat.{ℕ, zero, suc, ◌+◌, ◌≤◌, ◌<◌}
use mathlib.Core.List.{List, [], ◌∷◌, ◌++◌, append_assoc, map}
use mathlib.Core.Path.{◌≡◌, refl, sym, ap, ◌∙◌}
use native.Mathlib.Omega.{arith}
use lib.ListN.{length, take, drop}
use lib.Seq.{length-take-le}
use Rattle.form.proofs.Parts.{same_line}
use Rattle.std.specs.Prelude.{Option, Some, None, Ok}
use Rattle.laws.proofs.Every.{Every, front}
use Rattle.numerals.proofs.Here.{Here, here_then, past}
use Rattle.numerals.proofs.LineLaws.{key_line, lines_one, lines_append}
use Rattle.numerals.proofs.ReadFields.{keyed_reads}
use Rattle.numerals.proofs.Ways.{no_number, number_parts}
use Rattle.numerals.proofs.WrittenFields.{keyed_written}
use Rattle.numerals.specs.Fields.{Small, after_step, keyed_at, number}
use Rattle.numerals.specs.Lines.{Line, line_bytes, bytes_of_lines}
use Rattle.numerals.specs.Rows.{Read}
use Rattle.form.specs.Lines.{lines_end, breaks}
use Rattle.form.proofs.LineKinds.{Kind, first_line, lines_after, lines_read, no_lines}

-- some lines stand at a position, before a rest
abbrev pub Stands : List ℕ → ℕ → List Line → List ℕ → Type 0
Stands s at xs r = drop at s ≡ bytes_of_lines xs ++ r

-- a key and a number were read as they stand there, and after them stands what follows
pub record KeyedFront (s : List ℕ) (v n q : ℕ) (xs : List Line) (r : List ℕ) : Type 0 where
  pub same : v ≡ n
  pub after : Stands s q xs r

module _ (s r : List ℕ) (key : List ℕ) (at n : ℕ) (xs : List Line) (small : Small n) (e : Stands s at (key_line key n ∷ xs) r) where
  keyed_read : keyed_at s at key ≡ Some (number n (at + length (line_bytes (key_line key n))))
  keyed_read = keyed_reads s key (bytes_of_lines xs ++ r) at n small (first_line s r at (key_line key n) xs e)

  pub keyed_front : (v q : ℕ) → keyed_at s at key ≡ Some (number v q) → KeyedFront s v n q xs r
  keyed_front v q is =
      let read = keyed_read in
      let same = number_parts (sym read ∙ is) in
      record { same = sym same.0; after = rw same.1 at (lines_after s r at (key_line key n) xs e) }

  pub keyed_never : keyed_at s at key ≡ None → ⊥
  keyed_never is = no_number _ _ (sym is ∙ keyed_read)

map_front : {A : Type 0} (f : A → Line) (i : ℕ) (xs : List A) → take i (map f xs) ≡ map f (take i xs)
map_front f zero xs = refl
map_front f (suc i) [] = refl
map_front f (suc i) (x ∷ xs) = ap (λ (l : List Line). f x ∷ l) (map_front f i xs)

module _ {s : List ℕ} {X A : Type 0} {one : ℕ → Read A} {write : X → Line} {say : X → A} {Fits : X → Type 0} (kind : Kind s one write say Fits)
    (r : List ℕ) (xs : List X) (at line : ℕ) (fit : Every Fits xs) where
  -- after all lines of the kind stands what follows them
  pub lines_front : (ys : List Line) (q : ℕ) → lines_end one (length xs) at line ≡ Ok q → Stands s at (map write xs ++ ys) r → Stands s q ys r
  lines_front ys q whole e =
      let mine = bytes_of_lines (map write xs) in
      let rest = bytes_of_lines ys ++ r in
      let there : drop at s ≡ mine ++ rest
      = e ∙ ap (λ (l : List ℕ). l ++ r) (lines_append (map write xs) ys) ∙ append_assoc mine (bytes_of_lines ys) r in
      let read = lines_read kind rest xs at line fit there in
      let ends = read.ends in
      let place : at + length mine ≡ q = cc in
      rw place at (past s mine rest at there)

  -- and the first i of them do not stand there where one of these is broken
  pub lines_never : (i k : ℕ) → i ≤ length xs → lines_end one i at line ≡ breaks k → Stands s at (take i (map write xs)) r → ⊥
  lines_never i k few broken e =
      let all = (lines_read kind r (take i xs) at line (front Fits i xs fit) (rw map_front at e)).ends in
      no_lines k _ (sym broken ∙ (rw (length-take-le i xs few) at all))

-- lines of a kind from line `line` on that break at line k: some are whole, and one more breaks
module _ {A : Type 0} (one : ℕ → Read A) where
  pub record Stops (n at line k : ℕ) : Type 0 where
    pub whole_lines : ℕ
    pub end : ℕ
    pub fewer : whole_lines < n
    pub named : k ≡ line + whole_lines
    pub whole : lines_end one whole_lines at line ≡ Ok end
    pub broken : lines_end one (suc whole_lines) at line ≡ breaks k

  pub lines_stop : (n at line k : ℕ) → lines_end one n at line ≡ breaks k → Stops n at line k
  unfolding lines_end
  lines_stop zero at line k e = absurd (no_lines k at (sym e))
  lines_stop (suc n) at line k e = by (one at).end refl e (λ p. lines_stop n p (line + 1) k)
    where
      by : (x : Option ℕ) → (one at).end ≡ x → after_step (breaks line) x (λ p. lines_end one n p (line + 1)) ≡ breaks k
          → ((p : ℕ) → lines_end one n p (line + 1) ≡ breaks k → Stops n p (line + 1) k) → Stops (suc n) at line k
      by None i e on =
          record { whole_lines = 0; end = at; fewer = omega arith; named = omega (arith, same_line line k e); whole = refl; broken = rw i e }
      by (Some p) i e on =
          let r = on p e in
          record {
            whole_lines = suc r.whole_lines;
            end = r.end;
            fewer = omega (arith, r.fewer);
            named = omega (arith, r.named);
            whole = rw i r.whole;
            broken = rw i r.broken;
          }

-- lines that were read stand in the text
module _ (s : List ℕ) where
  abbrev pub LinesHere : ℕ → List Line → ℕ → Type 0
  LinesHere at xs q = Here s at (bytes_of_lines xs) q

  pub here_more : (xs ys : List Line) {at p q : ℕ} → LinesHere at xs p → LinesHere p ys q → LinesHere at (xs ++ ys) q
  here_more xs ys a b = rw (lines_append xs ys) (here_then a b)

  pub record KeyedHere (key : List ℕ) (at n q : ℕ) : Type 0 where
    pub here : LinesHere at (key_line key n ∷ []) q
    pub small : Small n

  pub keyed_here : (key : List ℕ) (at n q : ℕ) → keyed_at s at key ≡ Some (number n q) → KeyedHere key at n q
  keyed_here key at n q e =
      let w = keyed_written s at key n q e in
      record { here = rw lines_one w.here; small = w.small }
