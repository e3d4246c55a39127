-- The numbers of a line, with commas between them.
-- Assumes nothing.
use Rattle.std.specs.Prelude.{ℕ, zero, suc, ◌+◌, cond, List, [], ◌∷◌, ltb, eqb, length, Option, Some, None}
use Rattle.numerals.specs.Fields.{after_step, field_at}
use Rattle.numerals.specs.Words.{comma, line_end}
use Rattle.numerals.specs.declared.fields.Field.{Field}
use Rattle.numerals.specs.declared.rows.Row.{Row}

-- what was read from a position on, up to what breaks it if anything does, and the position after it
pub record Read (A : Type 0) : Type 0 where
  pub said : A
  pub end : Option ℕ

-- one number more at the front
abbrev pub ahead : ℕ → Read (List ℕ) → Read (List ℕ)
ahead v r = record { said = v ∷ r.said; end = r.end }

abbrev pub no_number : Read (List ℕ)
no_number = record { said = []; end = None }

-- a number read, and what its end says: the line goes on, ends at position p, or is broken
abbrev pub after_end : Option Field → (ℕ → Read (List ℕ)) → Read (List ℕ)
after_end (Some f) go =
    ahead f.value (cond (eqb f.end line_end) (record { said = []; end = Some f.next }) (cond (eqb f.end comma) (go f.next) no_number))
after_end None go = no_number

-- at least one number and at most `most`, each ended by a comma but the last, which ends the line
unfoldable pub row_at : ℕ → List ℕ → ℕ → Read (List ℕ)
row_at zero s at = no_number
row_at (suc most) s at = after_end (field_at s at) (λ p. row_at most s p)

abbrev pub row : ℕ → ℕ → Row
row count p = record { count = count; next = p }

-- how many numbers were read, after k before them, and the position after the line
abbrev pub row_told : ℕ → Read (List ℕ) → Option Row
row_told k r = after_step None r.end (λ p. Some (row (k + length r.said) p))

-- the index after k in a slice so long; past its end k stays
abbrev pub next_index : ℕ → ℕ → ℕ
next_index long k = cond (ltb k long) (k + 1) k
