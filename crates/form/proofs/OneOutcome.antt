-- No second outcome fits: an answer of `read_text` is the form that the definition makes. On paper it is what the call answers, and a form is read
-- back from its number and values there; the misplaced line of a text's form, if it has one, is counted from 1.
-- Assumes nothing.
use Prim.Native.Nat.{ℕ, zero, suc, ◌+◌, ◌<◌}
use mathlib.Core.Bool.{Bool, true, false, cond}
use mathlib.Core.List.{List, [], ◌∷◌}
use mathlib.Core.Path.{◌≡◌, refl, sym, ap, ◌∙◌}
use native.Mathlib.Omega.{arith}
use lib.ListN.{length}
use Rattle.std.proofs.lemmas.Option.{none-some, same_Some}
use Rattle.std.specs.Prelude.{Option, None, Some, Result, Ok, Err}
use Rattle.laws.proofs.ReadBack.{read_back}
use Rattle.form.specs.Answers.{misplaced_told, form_paper, form_answer}
use Rattle.form.specs.Document.{ReadLine}
use Rattle.form.specs.Form.{form_of}
use Rattle.form.specs.Places.{end_of, misplaced, misplaced_in, book_days}
use Rattle.form.specs.declared.lines.BrokenLine.{BrokenLine}
use Rattle.form.specs.declared.whole.Shape.{Shape}
use Rattle.form.proofs.Converse.{form_written}
use Rattle.form.proofs.Formed.{says_held}

-- what an answer of `read_text` is on paper
pub form_told : (f : Result Shape BrokenLine) (s : List ℕ) → f ≡ form_of s → form_paper f ≡ form_answer s
unfolding form_answer
form_told f s e = ap form_paper e

-- the misplaced line is none, or counted from 1 as the lines of a text are
pub Counted : Result Shape BrokenLine → Type 0
Counted r = (f : Shape) → r ≡ Ok f → f.misplaced ≡ Some 0 → ⊥

never_zero : (days : ℕ) (xs : List ReadLine) (k end : ℕ) → 0 < k → misplaced_in days xs k end ≡ Some 0 → ⊥
unfolding misplaced_in
never_zero days [] k end h e = none-some 0 e
never_zero days (x ∷ xs) k end h e = by (misplaced days end x) (never_zero days xs (k + 1) (end_of x) (omega arith)) e
  where
    by : (b : Bool) → (misplaced_in days xs (k + 1) (end_of x) ≡ Some 0 → ⊥) → cond b (Some k) (misplaced_in days xs (k + 1) (end_of x)) ≡ Some 0 → ⊥
    by true later f = let z : k ≡ 0 = same_Some k 0 f in omega (arith, z, h)
    by false later f = later f

pub form_counted : (s : List ℕ) → Counted (form_of s)
unfolding Counted
form_counted s f e z =
    let h = form_written s f e in
    never_zero (book_days h.document.winter) h.document.reads (length h.document.events + 4 + 1) 0 (omega arith)
    (sym (says_held s f e h).misplaced ∙ z)

-- a form is read back
line_back : List ℕ → Option ℕ
line_back [] = Some 0
line_back (zero ∷ vs) = None
line_back (suc k ∷ vs) = Some (suc k)

line_back_lem : (line : Option ℕ) → line_back (misplaced_told line) ≡ line
unfolding line_back
line_back_lem None = refl
line_back_lem (Some zero) = refl
line_back_lem (Some (suc k)) = refl

form_back : List ℕ → Result Shape BrokenLine
form_back [] = Err (record { line = 0 })
form_back (w ∷ []) = Err (record { line = w })
form_back (w ∷ (p ∷ [])) = Err (record { line = w })
form_back (w ∷ (p ∷ (e ∷ line))) = Ok (record { winter = w; price = p; events = e; misplaced = line_back line })

-- what an answer of `read_text` tells
pub form_is : (f : Result Shape BrokenLine) (s : List ℕ) → form_paper f ≡ form_answer s → f ≡ form_of s
unfolding form_back form_answer
form_is f s e = read_back form_paper (λ a. form_back a.values) inv f (form_of s) (form_paper (form_of s)) e refl
  where
    inv : (r : Result Shape BrokenLine) → form_back (form_paper r).values ≡ r
    inv (Ok f) =
        ap (λ (line : Option ℕ). Ok (record { winter = f.winter; price = f.price; events = f.events; misplaced = line })) (line_back_lem f.misplaced)
    inv (Err broken) = refl
