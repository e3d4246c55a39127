-- What a text says that is the text of some values: these values.
-- Assumes nothing.
use Prim.Native.Nat.{ℕ}
use mathlib.Core.Bool.{false}
use mathlib.Core.List.{List}
use mathlib.Core.Path.{◌≡◌, ap, ◌∙◌}
use Rattle.dates.specs.Winters.{no_winter, days}
use Rattle.form.proofs.Converse.{Held}
use Rattle.form.proofs.Formed.{form_of_held, says_held}
use Rattle.form.proofs.PlaceLaws.{book_days_lem}
use Rattle.form.proofs.RoundTrip.{Says}
use Rattle.form.specs.Document.{notices_in}
use Rattle.form.specs.Form.{form_of, notices_said}
use Rattle.form.specs.Places.{book_days, misplaced_line_in, book_in}
use Rattle.form.specs.declared.whole.Shape.{Shape}
use Rattle.text.specs.Values.{shape_in, winter_said, price_said, misplaced_said, no_readings, book_said}

module _ (s : List ℕ) (t : Held s) where
  shape : Shape
  shape = (form_of_held s t).shape

  says : Says s shape t.document
  unfolding shape
  says = says_held s (form_of_held s t).shape (form_of_held s t).is t

  said : shape_in (form_of s) ≡ shape
  unfolding shape
  said = ap shape_in (form_of_held s t).is

  pub winter_is : winter_said s ≡ t.document.winter
  winter_is = ap (λ (f : Shape). f.winter) said ∙ says.winter

  pub price_is : price_said s ≡ t.document.price
  price_is = ap (λ (f : Shape). f.price) said ∙ says.price

  pub notices_are : notices_said s ≡ notices_in t.document.events
  notices_are = says.notices

  pub book_is : book_said s ≡ book_in t.document.reads (no_readings t.document.winter)
  book_is = rw (winter_is, says.read_lines_lem)

  pub line_said : misplaced_said s ≡ misplaced_line_in (book_days t.document.winter) t.document
  line_said = ap (λ (f : Shape). f.misplaced) said ∙ says.misplaced

  pub line_is : no_winter t.document.winter ≡ false → misplaced_said s ≡ misplaced_line_in (days t.document.winter) t.document
  line_is e = line_said ∙ ap (λ (n : ℕ). misplaced_line_in n t.document) (book_days_lem t.document.winter e)
