-- Laws of the numbers of a line: the ways out and the turn of the loop that reads and stores them. A turn takes one number from what is left
-- and stores it, so that what is left stores the rest.
-- Assumes nothing.
use Prim.Native.Nat.{ℕ, suc, ◌+◌, ◌-◌, ◌≤◌, ◌<◌}
use mathlib.Core.List.{List, []}
use mathlib.Core.Path.{◌≡◌, refl, sym, ap, ◌∙◌}
use native.Mathlib.Omega.{arith}
use lib.ListN.{length, set, length-set}
use lib.Seq.{sets}
use borrow.Author.Tests.{eq-eqb, ne_eqb}
use Rattle.std.specs.Prelude.{Option, Some, None}
use Rattle.numerals.specs.Fields.{after_step, field_at, field}
use Rattle.numerals.specs.Rows.{Read, ahead, no_number, after_end, row_at, row_told, next_index, row}
use Rattle.numerals.specs.Words.{comma, line_end}
use Rattle.numerals.proofs.Stores.{stored}
use Rattle.numerals.specs.declared.rows.Row.{Row}

-- numbers that are told after k others are told after one more
told_ahead : (k v : ℕ) (r : Read (List ℕ)) → row_told k (ahead v r) ≡ row_told (k + 1) r
told_ahead k v r = by r.end
  where
    by : (e : Option ℕ) → after_step None e (λ p. Some (row (k + suc (length r.said)) p)) ≡ after_step None e (λ p. Some (row (k + 1 + length r.said) p))
    by (Some p) = let n : k + suc (length r.said) ≡ k + 1 + length r.said = omega arith in rw n
    by None = refl

-- after so many numbers of a line that may have `most`
module _ (most count : ℕ) (s : List ℕ) (at : ℕ) where
  pub row_done : most ≤ count → row_at (most - count) s at ≡ no_number
  unfolding row_at
  row_done h = let z : most - count ≡ 0 = omega arith in rw z

  module _ (h : count < most) where
    pub row_turn : row_at (most - count) s at ≡ after_end (field_at s at) (λ p. row_at (most - (count + 1)) s p)
    unfolding row_at
    row_turn = let m : most - count ≡ suc (most - (count + 1)) = omega arith in ap (λ (k : ℕ). row_at k s at) m

    pub row_none : field_at s at ≡ None → row_at (most - count) s at ≡ no_number
    row_none e = row_turn ∙ rw e

    module _ {v b p : ℕ} (e : field_at s at ≡ Some (field v b p)) where
      pub row_last : b ≡ line_end → row_at (most - count) s at ≡ ahead v (record { said = []; end = Some p })
      row_last f = row_turn ∙ rw (e, eq-eqb b line_end f)

      module _ (g : b ≡ line_end → ⊥) where
        pub row_bad : (b ≡ comma → ⊥) → row_at (most - count) s at ≡ ahead v no_number
        row_bad f = row_turn ∙ rw (e, ne_eqb b line_end g, ne_eqb b comma f)

        pub row_more : b ≡ comma → row_at (most - count) s at ≡ ahead v (row_at (most - (count + 1)) s p)
        row_more f = row_turn ∙ rw (e, ne_eqb b line_end g, eq-eqb b comma f)

-- the loop's invariant: after `count` numbers the rest tells and stores what all tell and store
pub record Left (all : Read (List ℕ)) (came : List ℕ) (first : ℕ) (rest : Read (List ℕ)) (out : List ℕ) (count k : ℕ) : Type 0 where
  pub tells : row_told 0 all ≡ row_told count rest
  pub stores : sets came first all.said ≡ sets out k rest.said
  pub size : length out ≡ length came

-- what the loop answers and leaves
abbrev pub Stored : Read (List ℕ) → List ℕ → ℕ → List ℕ → Option Row → Type 0
Stored all came first out told = (told ≡ row_told 0 all) × (out ≡ sets came first all.said)

module _ {all : Read (List ℕ)} {came : List ℕ} {first : ℕ} {rest : Read (List ℕ)} {out : List ℕ} {count k : ℕ}
    (h : Left all came first rest out count k) where
  -- one number more is stored
  pub left_more : {v next : ℕ} {r : Read (List ℕ)} {after : List ℕ} → rest ≡ ahead v r → next ≡ next_index (length out) k → after ≡ set out k v
      → Left all came first r after (count + 1) next
  left_more {v} {next} {r} {after} e n s = record {
    tells = h.tells ∙ ap (row_told count) e ∙ told_ahead count v r;
    stores = h.stores ∙ rw (e, n, s) (stored out k v r.said);
    size = ap length s ∙ length-set out k v ∙ h.size;
  }

  -- the line has ended, or is broken
  pub left_ended : {p : ℕ} → rest ≡ record { said = []; end = Some p } → Stored all came first out (Some (row count p))
  left_ended e =
      let z : count + 0 ≡ count = omega arith in
      (sym (h.tells ∙ rw (e, z)), sym (h.stores ∙ rw e))

  pub left_broken : rest ≡ no_number → Stored all came first out None
  left_broken e = (sym (h.tells ∙ rw e), sym (h.stores ∙ rw e))

pub ruleset broken_laws = (left_broken, row_done, row_none)
