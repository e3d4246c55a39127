-- A text has the form exactly when it is the text of some values that can be written in it, and it says those values. Proved from the two
-- directions: what is written reads back, and what is read is written so.
-- Assumes nothing.
use Prim.Native.Nat.{ℕ, ◌*◌}
use mathlib.Core.List.{List, [], ◌∷◌}
use mathlib.Core.Path.{◌≡◌, refl, sym, ap, ◌∙◌}
use native.Mathlib.Omega.{arith}
use lib.ListN.{length}
use Rattle.std.specs.Prelude.{Ok}
use Rattle.notices.specs.Notices.{notice_numbers}
use Rattle.form.specs.Document.{EventLine, notices_in}
use Rattle.form.specs.Form.{form_of, notices_said}
use Rattle.form.specs.declared.whole.Shape.{Shape}
use Rattle.form.proofs.Parts.{same_Ok}
use Rattle.form.proofs.Converse.{Held, form_written}
use Rattle.form.proofs.RoundTrip.{Says, shape_of, text_read}

pub record HasForm (s : List ℕ) : Type 0 where
  pub shape : Shape
  pub is : form_of s ≡ Ok shape

-- both directions
pub held_of : (s : List ℕ) → HasForm s → Held s
held_of s h = form_written s h.shape h.is

pub form_of_held : (s : List ℕ) → Held s → HasForm s
form_of_held s h = record { shape = shape_of h.document; is = ap form_of h.is ∙ (text_read h.document h.writable).0 }

-- whatever values a text is the text of, those it says
pub says_held : (s : List ℕ) (f : Shape) → form_of s ≡ Ok f → (h : Held s) → Says s f h.document
says_held s f e h =
    let read = text_read h.document h.writable in
    let g : f ≡ shape_of h.document = same_Ok f (shape_of h.document) (sym e ∙ ap form_of h.is ∙ read.0) in
    rw (g, h.is) read.1

-- the list of a text that has the form has three numbers a notice
three_each : (xs : List EventLine) → length (notices_in xs) ≡ notice_numbers * length xs
unfolding notices_in
three_each [] = refl
three_each (x ∷ xs) = omega (arith, three_each xs)

pub notices_long : (s : List ℕ) (f : Shape) → form_of s ≡ Ok f → length (notices_said s) ≡ notice_numbers * f.events
notices_long s f e =
    let h = form_written s f e in
    let said = says_held s f e h in
    omega (arith, ap length said.notices, three_each h.document.events, said.count)
