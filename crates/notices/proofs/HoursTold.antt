-- What is told of a notice's hours decides a table that has their three rows: past hours inside a band the rows after them do, and a fault is told
-- whatever comes after it. And no second verdict fits: the rule is read back from its number.
-- Assumes nothing.
use Prim.Native.Nat.{ℕ}
use mathlib.Core.Bool.{false}
use mathlib.Core.List.{List, ◌++◌}
use mathlib.Core.Path.{◌≡◌, sym, ap, ◌∙◌}
use native.Mathlib.Omega.{arith}
use Rattle.laws.proofs.Tables.{NoneBroken, accepted_none, part_stops, part_goes}
use Rattle.laws.specs.Answer.{Answer}
use Rattle.laws.specs.Table.{refusal_at, Row, first_of, is_refusal}
use Rattle.std.specs.Prelude.{⊤, Ok, Err, Result}
use Rattle.notices.specs.Hours.{bad_hours}
use Rattle.notices.specs.HoursVerdict.{hour_rows}
use Rattle.notices.specs.declared.notices.Notice.{Notice}
use Rattle.notices.specs.declared.profiles.Figures.{Figures}
use Rattle.notices.proofs.HourLaws.{hours_kept}
use Rattle.refusals.proofs.RuleNumbers.{refused_is, ruled_one}
use Rattle.refusals.specs.Refusals.{rule_number, rule_paper}
use Rattle.refusals.specs.declared.rule.Rule.{Rule}

module _ (f : Figures) (n : Notice) (v : Result ⊤ Rule) (told : (k : ℕ) → rule_paper v k ≡ first_of (hour_rows f n k)) where
  none_broken : v ≡ Ok tt → (k : ℕ) → NoneBroken (hour_rows f n k)
  none_broken e k = accepted_none (hour_rows f n k) (omega arith) (sym (told k) ∙ ap (λ (v : Result ⊤ Rule). rule_paper v k) e)

  pub hours_right : v ≡ Ok tt → bad_hours f n ≡ false
  hours_right e = (hours_kept f n 0).0 (none_broken e 0)

  module _ (k : ℕ) (more : List Row) where
    pub hours_go : v ≡ Ok tt → {a : Answer} → a ≡ first_of more → a ≡ first_of (hour_rows f n k ++ more)
    hours_go e q = q ∙ part_goes (hour_rows f n k) more (none_broken e k)

    pub hours_stop : (rule : Rule) → v ≡ Err rule → refusal_at (rule_number rule) k ≡ first_of (hour_rows f n k ++ more)
    hours_stop rule e =
        let is = ap (λ (v : Result ⊤ Rule). rule_paper v k) (sym e) ∙ told k in
        is ∙ part_stops (hour_rows f n k) more (ap is_refusal (sym is) ∙ refused_is rule k)

pub hours_one : (r s : Result ⊤ Rule) (f : Figures) (n : Notice) → ((k : ℕ) → rule_paper r k ≡ first_of (hour_rows f n k))
    → ((k : ℕ) → rule_paper s k ≡ first_of (hour_rows f n k)) → r ≡ s
hours_one r s f n e q = ruled_one r s 0 (first_of (hour_rows f n 0)) (e 0) (q 0)
