-- No second outcome: a code that can be read back determines what it codes.
-- Assumes nothing.
use mathlib.Core.Path.{◌≡◌, ap, sym, ◌∙◌}

pub read_back : {A B : Type 0} (code : A → B) (back : B → A) → ((a : A) → back (code a) ≡ a) → (r s : A) (b : B) → code r ≡ b → code s ≡ b → r ≡ s
read_back code back inv r s b e f = sym (inv r) ∙ ap back (e ∙ sym f) ∙ inv s
