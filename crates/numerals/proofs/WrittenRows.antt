-- What is read as the numbers of a line is written so, and each of them is at most 4294967294: by recursion on how many are allowed.
-- Assumes nothing.
use Prim.Native.Nat.{ℕ, zero, suc, ◌≤◌}
use mathlib.Core.Bool.{Bool, true, false, cond}
use mathlib.Core.List.{List, [], ◌∷◌}
use mathlib.Core.Path.{◌≡◌, refl, ap, ◌∙◌}
use native.Mathlib.Omega.{arith}
use lib.Dec.{eqb}
use lib.ListN.{length}
use borrow.Author.Tests.{eqb-true}
use Rattle.std.specs.Prelude.{Option, Some, None}
use Rattle.laws.proofs.Every.{Every}
use Rattle.numerals.specs.Decimal.{decimal}
use Rattle.numerals.specs.Fields.{Small, field_at, field}
use Rattle.numerals.specs.Rows.{Read, no_number, ahead, after_end, row_at}
use Rattle.numerals.specs.Words.{comma, line_end}
use Rattle.numerals.specs.declared.fields.Field.{Field}
use Rattle.numerals.proofs.Here.{Here, here_then, here_byte}
use Rattle.numerals.proofs.LineLaws.{number_bytes, fields_last, fields_more}
use Rattle.numerals.proofs.Ways.{no_step}
use Rattle.numerals.proofs.WrittenFields.{FieldWritten, field_written}

-- what is read as the numbers of a line is that end of a line
pub record RowWritten (most : ℕ) (s : List ℕ) (at : ℕ) (vs : List ℕ) (q : ℕ) : Type 0 where
  pub some : 1 ≤ length vs
  pub few : length vs ≤ most
  pub small : Every Small vs
  pub here : Here s at (number_bytes vs) q

last_written : (most : ℕ) (s : List ℕ) (at v q : ℕ) → FieldWritten s at v line_end q → RowWritten (suc most) s at (v ∷ []) q
last_written most s at v q w = record { some = omega arith; few = omega arith; small = (w.small, tt); here = rw fields_last w.here }

more_written : (most : ℕ) (s : List ℕ) (at v p : ℕ) (vs : List ℕ) (q : ℕ) → FieldWritten s at v comma p → RowWritten most s p vs q
    → RowWritten (suc most) s at (v ∷ vs) q
more_written most s at v p [] q w r = absurd (omega (arith, r.some))
more_written most s at v p (u ∷ us) q w r = record {
  some = omega arith;
  few = omega (arith, r.few);
  small = (w.small, r.small);
  here = rw fields_more (here_byte s at (decimal v) comma (number_bytes (u ∷ us)) q (here_then w.here r.here));
}

-- one number more, by the byte that ends it: between numbers, of the line, or another
module _ (most : ℕ) (s : List ℕ) (at q : ℕ) (on : (p : ℕ) → (row_at most s p).end ≡ Some q → RowWritten most s p (row_at most s p).said q) where
  comma_or : (t : Bool) (v b p : ℕ) → eqb b comma ≡ t → field_at s at ≡ Some (field v b p) → (ahead v (cond t (row_at most s p) no_number)).end ≡ Some q
      → RowWritten (suc most) s at (ahead v (cond t (row_at most s p) no_number)).said q
  comma_or true v b p c i e =
      let w = field_written s at v comma p (i ∙ ap (λ (x : ℕ). Some (field v x p)) (eqb-true b comma c)) in
      more_written most s at v p (row_at most s p).said q w (on p e)
  comma_or false v b p c i e = absurd (no_step q e)

  abbrev ended : Bool → ℕ → ℕ → ℕ → Read (List ℕ)
  ended t v b p = ahead v (cond t (record { said = []; end = Some p }) (cond (eqb b comma) (row_at most s p) no_number))

  end_or : (t : Bool) (v b p : ℕ) → eqb b line_end ≡ t → field_at s at ≡ Some (field v b p) → (ended t v b p).end ≡ Some q
      → RowWritten (suc most) s at (ended t v b p).said q
  end_or true v b p c i e = last_written most s at v q (field_written s at v line_end q (i ∙ cc (eqb-true b line_end c)))
  end_or false v b p c i e = comma_or (eqb b comma) v b p refl i e

  by_field : (x : Option Field) → field_at s at ≡ x → (after_end x (λ p. row_at most s p)).end ≡ Some q
      → RowWritten (suc most) s at (after_end x (λ p. row_at most s p)).said q
  by_field None i e = absurd (no_step q e)
  by_field (Some f) i e = end_or (eqb f.end line_end) f.value f.end f.next refl i e

pub row_written : (most : ℕ) (s : List ℕ) (at q : ℕ) → (row_at most s at).end ≡ Some q → RowWritten most s at (row_at most s at).said q
unfolding row_at
row_written zero s at q e = absurd (no_step q e)
row_written (suc most) s at q e = by_field most s at q (λ p h. row_written most s p q h) (field_at s at) refl e
