-- The line that refusal 30 names is the first that breaks the form: the lines before it are the first lines of some values that can be
-- written, and with it they are the first lines of no such values. Proved by the ways in which the form can break.
-- Assumes nothing.
use Prim.Native.Nat.{ℕ, ◌+◌}
use mathlib.Core.List.{List}
use mathlib.Core.Path.{◌≡◌, refl, sym, ap, ◌∙◌}
use lib.Dec.{eqb}
use lib.ListN.{length}
use Rattle.form.proofs.Parts.{same_line, no_break}
use Rattle.std.specs.Prelude.{Option, Some, None, Result, Ok, Err}
use Rattle.form.specs.declared.whole.Top.{Top}
use Rattle.form.specs.declared.lines.BrokenLine.{BrokenLine}
use Rattle.numerals.proofs.Ways.{second}
use Rattle.numerals.specs.Fields.{after_number, keyed_at, number}
use Rattle.numerals.specs.Words.{bytes_of}
use Rattle.numerals.specs.declared.fields.Number.{Number}
use Rattle.form.specs.Form.{top_of, after_top, rest_of, form_of, top}
use Rattle.form.specs.Lines.{after_lines, event_line_at, read_line_at, lines_end, breaks}
use Rattle.form.specs.declared.whole.Shape.{Shape}
use Rattle.form.proofs.Begins.{FirstBrokenLine, one_first}
use Rattle.form.proofs.BrokenBody.{no_event, no_counted, no_read, no_end}
use Rattle.form.proofs.BrokenTop.{no_winter_lem, no_price, no_count}
use Rattle.form.proofs.Converse.{Held, form_written, TopRead, top_read}
use Rattle.form.proofs.Formed.{form_of_held}
use Rattle.form.proofs.LinesInText.{lines_stop}

-- how an answer came about: after something broken, or after what was read
module _ {A P : Type 0} {z : A} where
  broken_or_number : (broken : A) (x : Option Number) (go : ℕ → ℕ → A) → after_number broken x go ≡ z
      → (x ≡ None → broken ≡ z → P) → ((v p : ℕ) → x ≡ Some (number v p) → go v p ≡ z → P) → P
  broken_or_number broken None go e f g = f refl e
  broken_or_number broken (Some n) go e f g = g n.value n.next refl e

  broken_or_lines : (broken : ℕ → A) (x : Result ℕ BrokenLine) (go : ℕ → A) → after_lines broken x go ≡ z
      → ((k : ℕ) → x ≡ breaks k → broken k ≡ z → P) → ((p : ℕ) → x ≡ Ok p → go p ≡ z → P) → P
  broken_or_lines broken (Err b) go e f g = f b.line refl e
  broken_or_lines broken (Ok p) go e f g = g p refl e

  broken_or_top : (broken : ℕ → A) (x : Result Top BrokenLine) (go : ℕ → ℕ → ℕ → ℕ → A) → after_top broken x go ≡ z
      → ((k : ℕ) → x ≡ breaks k → broken k ≡ z → P)
      → ((winter price events p : ℕ) → x ≡ Ok (top winter price events p) → go winter price events p ≡ z → P) → P
  broken_or_top broken (Err b) go e f g = f b.line refl e
  broken_or_top broken (Ok t) go e f g = g t.winter t.price t.events t.next refl e

module _ (s : List ℕ) (k : ℕ) (never : Held s → ⊥) where
  in_top : top_of s ≡ breaks k → FirstBrokenLine s k
  unfolding top_of
  in_top e =
      broken_or_number (breaks 1) (keyed_at s 0 (bytes_of "winter=")) _ e (λ none same. no_winter_lem s k never none (sym (same_line 1 k same)))
      (λ winter p is_winter e₁. broken_or_number (breaks 2) (keyed_at s p (bytes_of "price=")) _ e₁
      (λ none same. no_price s k never is_winter none (sym (same_line 2 k same)))
      (λ price q is_price e₂. broken_or_number (breaks 3) (keyed_at s q (bytes_of "events=")) _ e₂
      (λ none same. no_count s k never is_winter is_price none (sym (same_line 3 k same)))
      (λ count at is_count same. absurd (no_break k (top winter price count at) same))))

  in_rest : {winter price n at : ℕ} → TopRead s winter price n at → (q : ℕ) → lines_end (event_line_at s) n at 4 ≡ Ok q
      → rest_of s winter price n q ≡ breaks k → FirstBrokenLine s k
  unfolding rest_of
  in_rest {winter} {price} {n} head q are_events e =
      broken_or_number (breaks (n + 4)) (keyed_at s q (bytes_of "reads=")) _ e
      (λ none same. no_counted s never head q are_events k none (sym (same_line (n + 4) k same)))
      (λ m r is_counted e₁. broken_or_lines breaks (lines_end (read_line_at s) m r (n + 4 + 1)) _ e₁
      (λ l x same. no_read s never head q are_events m r is_counted k (lines_stop (read_line_at s) m r (n + 4 + 1) k (x ∙ ap breaks (same_line l k same))))
      (λ t whole e₂.
      let end = second (eqb t (length s)) _ (breaks (n + 4 + 1 + m)) (no_break k _) e₂ in
      no_end s never head q are_events m r is_counted k t whole (sym (same_line (n + 4 + 1 + m) k end.1))))

  in_text : form_of s ≡ breaks k → FirstBrokenLine s k
  unfolding form_of
  in_text e =
      broken_or_top breaks (top_of s) _ e (λ l x same. in_top (x ∙ ap breaks (same_line l k same)))
      (λ winter price n at is e₁.
      let head = top_read s winter price n at is in
      broken_or_lines breaks (lines_end (event_line_at s) n at 4) _ e₁
      (λ l x same. no_event s never head k (lines_stop (event_line_at s) n at 4 k (x ∙ ap breaks (same_line l k same))))
      (λ q are_events e₂. in_rest head q are_events e₂))

-- the line that refusal 30 names is the first that breaks the form
pub broken_first : (s : List ℕ) (k : ℕ) → form_of s ≡ breaks k → FirstBrokenLine s k
broken_first s k e = in_text s k (λ h. let f = form_of_held s h in no_break k f.shape (sym f.is ∙ e)) e

-- and the first line that breaks the form is the one that refusal 30 names
pub first_broken_line : (s : List ℕ) (k : ℕ) → FirstBrokenLine s k → form_of s ≡ breaks k
first_broken_line s k b = by (form_of s) refl
  where
    by : (f : Result Shape BrokenLine) → form_of s ≡ f → f ≡ breaks k
    by (Ok f) e = absurd (b.no_text (form_written s f e))
    by (Err j) e = ap breaks (one_first s j.line k (broken_first s j.line e) b)
