-- What the loop over the notices carries from turn to turn: the first k lines are there, and the sums are theirs. Before the first turn, and with
-- the event of a turn.
-- Assumes nothing.
use Prim.Native.Nat.{ℕ, suc, ◌+◌, ◌*◌, ◌<◌}
use mathlib.Core.Bool.{Bool, true, false}
use mathlib.Core.List.{List}
use mir.Val.{bool_byte}
use Rattle.laws.specs.Answer.{bit}
use mathlib.Core.Path.{◌≡◌, refl, sym, ap, ◌∙◌}
use native.Mathlib.Numerals.{add-one}
use lib.ListN.{length}
use lib.Seq.{sets}
use Rattle.energy.proofs.PaperLaws.{event_settled}
use Rattle.energy.specs.Event.{event_paper}
use Rattle.energy.specs.declared.events.Unsettled.{Unsettled}
use Rattle.std.specs.Prelude.{Result}
use Rattle.std.specs.Result.{is_ok}
use Rattle.laws.proofs.RowLaws.{Filled, filled_none, filled_next}
use Rattle.laws.proofs.SumLaws.{sum_none, sum_next}
use Rattle.laws.specs.Sums.{sum_to}
use Rattle.notices.specs.Notices.{notice_at}
use Rattle.notices.specs.declared.notices.Notice.{Notice}
use Rattle.power.specs.Lines.{power_line_numbers, power_line, power_line_at, reduction_at, settled_one, settled_at}
use Rattle.power.specs.Ready.{AllReady}
use Rattle.power.specs.Reduced.{Reduced, reference_at, reduced_of, reduced_at}
use Rattle.power.proofs.LineLaws.{line_wide}

pub record Carried (events : ℕ → Reduced) (came : List ℕ) (n : ℕ) (out : List ℕ) (sum settled k : ℕ) : Type 0 where
  pub sum_is : sum ≡ sum_to (reduction_at events) k
  pub settled_is : settled ≡ sum_to (settled_at events) k
  pub filled : Filled power_line_numbers (power_line_at events) came n out k

pub carried_none : {events : ℕ → Reduced} {came : List ℕ} {n : ℕ} → Carried events came n came 0 0 0
carried_none {events} =
    record { sum_is = sym (sum_none (reduction_at events)); settled_is = sym (sum_none (settled_at events)); filled = filled_none }

-- the event of a turn, by the reference and the notice that were read
pub event_at_lem : (book list references : List ℕ) (k reference : ℕ) (m : Notice) (r : Reduced) → reference ≡ reference_at references k → m ≡ notice_at list k
    → r ≡ reduced_of book reference m → r ≡ reduced_at book list references k
unfolding reduced_at
event_at_lem book list references k reference m r a b e = e ∙ rw (a, b)

-- a test as the code counts it
pub one_is : (b : Bool) → bool_byte b ≡ bit b
one_is true = refl
one_is false = refl

-- and of a settled event
pub one : (e : Result ℕ Unsettled) {b : Bool} → b ≡ is_ok e → bool_byte b ≡ settled_one (event_paper e)
one e {b} q = one_is b ∙ rw (q, event_settled e)

module _ (book list references : List ℕ) {came : List ℕ} {n : ℕ} {out : List ℕ} {sum settled k : ℕ}
    (h : Carried (reduced_at book list references) came n out sum settled k) (ready : AllReady list references (length came) n) (lt : k < n) where
  abbrev events : ℕ → Reduced
  events = reduced_at book list references

  -- the sums with the event of this turn
  pub more_sum : (r : Reduced) → r ≡ events k → sum + r.reduction ≡ sum_to (reduction_at events) (suc k)
  more_sum r q = rw (h.sum_is, q) (sym (sum_next (reduction_at events) k))

  pub more_settled : (r : Reduced) → r ≡ events k → settled + settled_one r.event ≡ sum_to (settled_at events) (suc k)
  more_settled r q = rw (h.settled_is, q) (sym (sum_next (settled_at events) k))

  -- a turn: the four stores are line k
  pub carried_next : (r : Reduced) (q : r ≡ events k) (one : ℕ) → one ≡ settled_one r.event → (out' : List ℕ)
      → out' ≡ sets out (power_line_numbers * k) (power_line r)
      → Carried events came n out' (sum + r.reduction) (settled + one) (k + 1)
  unfolding power_line_at
  carried_next r q one o out' stored =
      record {
        sum_is = rw add-one (more_sum r q);
        settled_is = rw (add-one, o) (more_settled r q);
        filled = filled_next h.filled (line_wide events) ready.room_enough lt stored (ap power_line q);
      }
