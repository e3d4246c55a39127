-- Bytes that stand at a position of a text: what follows them, nothing, two parts, the whole text.
-- Assumes nothing.
use Prim.Native.Nat.{ℕ, ◌+◌, ◌≤◌}
use mathlib.Core.List.{List, [], ◌∷◌, ◌++◌, append_assoc, append-nil}
use mathlib.Core.Path.{◌≡◌, refl, sym, ap, ◌∙◌}
use native.Mathlib.Omega.{arith}
use lib.ListN.{length, drop, length-append, drop_of_length-le}
use lib.Seq.{drop-append_seam, drop-drop}

-- past the bytes that stand at a position stands the rest
pub past : (s a r : List ℕ) (at : ℕ) → drop at s ≡ a ++ r → drop (at + length a) s ≡ r
past s a r at e = sym (drop-drop (length a) at s) ∙ rw e (drop-append_seam a r)

-- bytes stand at a position, and q is the position after them
pub record Here (s : List ℕ) (at : ℕ) (bytes : List ℕ) (q : ℕ) : Type 0 where
  pub rest : List ℕ
  pub split : drop at s ≡ bytes ++ rest
  pub ends : q ≡ at + length bytes

pub here_none : (s : List ℕ) (at : ℕ) → Here s at [] at
here_none s at = record { rest = drop at s; split = refl; ends = omega arith }

pub here_then : {s a b : List ℕ} {at p q : ℕ} → Here s at a p → Here s p b q → Here s at (a ++ b) q
here_then {s} {a} {b} {at} x y =
    let e : x.rest ≡ b ++ y.rest
    = sym (past s a x.rest at x.split) ∙ ap (λ (k : ℕ). drop k s) (sym x.ends) ∙ y.split in
    record {
      rest = y.rest;
      split = x.split ∙ ap (λ (l : List ℕ). a ++ l) e ∙ sym (append_assoc a b y.rest);
      ends = omega (arith, length-append a b);
    }

-- bytes that end where the text ends are the whole text
pub here_whole : {s a : List ℕ} → Here s 0 a (length s) → s ≡ a
here_whole {s} {a} x =
    let none : length x.rest ≤ 0 = omega (arith, ap length x.split, length-append a x.rest) in
    x.split ∙ ap (λ (l : List ℕ). a ++ l) (drop_of_length-le x.rest none) ∙ append-nil a

-- a byte between, for bytes that a number ends with
pub here_byte : (s : List ℕ) (at : ℕ) (a : List ℕ) (c : ℕ) (b : List ℕ) (q : ℕ) → Here s at ((a ++ (c ∷ [])) ++ b) q → Here s at (a ++ (c ∷ b)) q
here_byte s at a c b q h = rw (append_assoc a (c ∷ []) b) at h
