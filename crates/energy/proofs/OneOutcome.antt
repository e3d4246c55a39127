-- No second outcome fits: two events that are the same on paper are the same event, and two answers with the same number and event on paper are
-- the same answer, read back from them.
-- Assumes nothing.
use Prim.Native.Nat.{ℕ}
use mathlib.Core.Bool.{cond}
use mathlib.Core.Path.{◌≡◌, refl, ap}
use native.Mathlib.Omega.{arith}
use lib.Dec.{eqb}
use borrow.Author.Tests.{ne_eqb}
use Rattle.std.specs.Prelude.{Result, Ok, Err}
use Rattle.laws.proofs.ReadBack.{read_back}
use Rattle.refusals.proofs.RuleNumbers.{number_range, rule_of, rule_back}
use Rattle.refusals.specs.Refusals.{rule_number}
use Rattle.refusals.specs.declared.rule.Rule.{Rule}
use Rattle.energy.specs.Line.{EventAnswer, line_paper}
use Rattle.energy.specs.Event.{Event, event_paper}
use Rattle.energy.specs.declared.events.Unsettled.TheVariants.{FewDays, Missing, TooLarge}
use Rattle.energy.specs.declared.events.Unsettled.{Unsettled}

event_back : Event → Result ℕ Unsettled
event_back e = cond (eqb e.code 0) (Ok e.energy) (cond (eqb e.code 20) (Err FewDays) (cond (eqb e.code 21) (Err (Missing e.place)) (Err (TooLarge e.place))))

event_read : (r : Result ℕ Unsettled) → event_back (event_paper r) ≡ r
unfolding event_back
event_read (Ok energy) = refl
event_read (Err FewDays) = refl
event_read (Err (Missing p)) = refl
event_read (Err (TooLarge p)) = refl

-- of an event
pub event_one : (r s : Result ℕ Unsettled) (a : Event) → event_paper r ≡ a → event_paper s ≡ a → r ≡ s
event_one = read_back event_paper event_back event_read

line_back : EventAnswer → Result (Result ℕ Unsettled) Rule
line_back a = cond (eqb a.number 0) (Ok (event_back a.event)) (Err (rule_of a.number))

-- and of the call on one
pub line_one : (r s : Result (Result ℕ Unsettled) Rule) (a : EventAnswer) → line_paper r ≡ a → line_paper s ≡ a → r ≡ s
unfolding line_back
line_one = read_back line_paper line_back inv
  where
    inv : (r : Result (Result ℕ Unsettled) Rule) → line_back (line_paper r) ≡ r
    inv (Ok event) = ap (λ (e : Result ℕ Unsettled). Ok e) (event_read event)
    inv (Err rule) =
        rw (ne_eqb (rule_number rule) 0 (λ (e : rule_number rule ≡ 0). omega (arith, (number_range rule).0)))
        (ap (λ (r : Rule). Err r) (rule_back rule))
