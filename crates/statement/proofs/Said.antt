-- The statement of what was read is that of all that the reader had.
-- Assumes nothing.
use Rattle.std.proofs.Common.{◌≡◌, ℕ, ◌≤◌, ◌<◌, Bool, true, false, ltb, List, [], ◌++◌, None, Some, IfSome, length, take, refl, ap, ◌∙◌, sym, subst}
use Rattle.std.proofs.Common.{arith, append-nil, length-append, ltb-true, ltb-false}
use Rattle.std.proofs.Math.Seq.{take-append_seam}
use Rattle.std.specs.declared.option.Option.{Option}
use Rattle.std.specs.Io.KnownBytes.{Appends, Consumes, IsAtEnd}
use Rattle.text.specs.Statement.{statement_of, answer_room, answered, answered_in}
use Rattle.text.proofs.StatementLaws.{long_refused}
use Rattle.text.proofs.Told.{answer_there}

-- a text that is too long has the statement of its front that is
pub same_refused : (s t : List ℕ) → 65536 < length s → 65536 < length t → statement_of s ≡ statement_of t
same_refused s t h f = sym (long_refused s h) ∙ long_refused t f

-- a front that the room has left no byte behind is the text, or both are too long
same_said : (front rest : List ℕ) → (length front < 65537 → rest ≡ []) → statement_of front ≡ statement_of (front ++ rest)
same_said front rest end = by (ltb (length front) 65537) refl
  where
    by : (b : Bool) → ltb (length front) 65537 ≡ b → statement_of front ≡ statement_of (front ++ rest)
    by true e = ap statement_of (sym (append-nil front) ∙ ap (λ l. front ++ l) (sym (end (ltb-true _ _ e))))
    by false e = let long = ltb-false _ _ e in same_refused front (front ++ rest) (omega arith) (omega (arith, length-append front rest))

-- what a writer got for what was read it got for all that there was
pub said_for_all : (a b c d : Option (List ℕ)) (front : List ℕ) → Consumes a b front → (length front < 65537 → IsAtEnd b) → Appends c d (statement_of front)
    → IfSome a (λ text. Appends c d (statement_of text))
said_for_all None b c d front p end w = tt
said_for_all (Some s) None c d front p end w = absurd p
said_for_all (Some s) (Some rest) c d front p end w = subst (λ t. Appends c d (statement_of t)) (sym p) (subst (Appends c d) (same_said front rest end) w)

-- an output with room holds the statement at its front
pub holds_statement : (s out after : List ℕ) (n : ℕ) → answer_room ≤ length out → n ≡ answered s out → after ≡ answered_in s out → take n after ≡ statement_of s
holds_statement s out after n room e f =
    let told = answer_there s out room in
    ap (λ x. take x after) (e ∙ told.0) ∙ ap (take (length (statement_of s))) (f ∙ told.1) ∙ take-append_seam (statement_of s) _
