-- The walk over the event lines: its invariant, that the lines that are left end where all end and store what all store, with its start, its
-- turn and its ways out over plain variables.
-- Assumes nothing.
use Prim.Native.Nat.{ℕ, ◌+◌, ◌-◌, ◌*◌, ◌≤◌, ◌<◌}
use mathlib.Core.List.{List, append-nil, flatten}
use mathlib.Core.Path.{◌≡◌, sym, ap, ◌∙◌}
use native.Mathlib.Omega.{arith}
use lib.Seq.{sets}
use Rattle.std.specs.Prelude.{Some, None, Result, Ok}
use Rattle.form.specs.declared.lines.BrokenLine.{BrokenLine}
use Rattle.notices.specs.Notices.{notice_numbers}
use Rattle.laws.proofs.Stores.{sets_append}
use Rattle.form.specs.Lines.{event_line_at, lines_end, lines_said, breaks}
use Rattle.form.proofs.LineLaws.{lines_done, said_done, lines_bad, said_bad, lines_more, said_more}
use Rattle.form.proofs.OneLine.{EventPut, event_three}

-- of so many event lines from `at` on k are done: the next stands at i
pub record EventsLeft (s : List ℕ) (at events : ℕ) (came list : List ℕ) (i k : ℕ) : Type 0 where
  pub ends : lines_end (event_line_at s) events at 4 ≡ lines_end (event_line_at s) (events - k) i (4 + k)
  pub stores : sets came 0 (flatten (lines_said (event_line_at s) events at))
      ≡ sets list (k * notice_numbers) (flatten (lines_said (event_line_at s) (events - k) i))

pub events_start : (s : List ℕ) (at events : ℕ) (came : List ℕ) → EventsLeft s at events came came at 0
events_start s at events came = let z : events - 0 ≡ events = omega arith in record { ends = rw z; stores = rw z }

-- what the walk answers and leaves in the list
abbrev pub EventsPut : List ℕ → ℕ → ℕ → List ℕ → Result ℕ BrokenLine → List ℕ → Type 0
EventsPut s at events came told after =
    (told ≡ lines_end (event_line_at s) events at 4) × (after ≡ sets came 0 (flatten (lines_said (event_line_at s) events at)))

module _ {s : List ℕ} {at events : ℕ} {came list : List ℕ} {i k : ℕ} (h : EventsLeft s at events came list i k) where
  pub events_end : events ≤ k → EventsPut s at events came (Ok i) list
  unfolding flatten
  events_end all = (
    sym (h.ends ∙ lines_done (event_line_at s) events k i (4 + k) all),
    sym (h.stores ∙ ap (λ (l : List (List ℕ)). sets list (k * notice_numbers) (flatten l)) (said_done (event_line_at s) events k i all)),
  )

  module _ (more : k < events) {after : List ℕ} where
    -- the line is broken, and the numbers that were read of it are stored
    pub events_stop : EventPut s i list (k * notice_numbers) None after → EventsPut s at events came (breaks (4 + k)) after
    unfolding flatten
    events_stop put =
        let bad = sym put.0 in
        let stored : sets list (k * notice_numbers) (flatten (lines_said (event_line_at s) (events - k) i)) ≡ after
        = ap (λ (l : List (List ℕ)). sets list (k * notice_numbers) (flatten l)) (said_bad (event_line_at s) events k i more bad)
        ∙ ap (sets list (k * notice_numbers)) (append-nil (event_line_at s i).said)
        ∙ sym put.1 in
        (sym (h.ends ∙ lines_bad (event_line_at s) events k i more (4 + k) bad), sym (h.stores ∙ stored))

    -- it is whole, and its three numbers are stored
    pub events_next : {next : ℕ} → EventPut s i list (k * notice_numbers) (Some next) after → EventsLeft s at events came after next (k + 1)
    unfolding flatten
    events_next {next} put =
        let whole = sym put.0 in
        let said = (event_line_at s i).said in
        let rest = flatten (lines_said (event_line_at s) (events - (k + 1)) next) in
        let index : k * notice_numbers + notice_numbers ≡ (k + 1) * notice_numbers = omega arith in
        let stored : sets list (k * notice_numbers) (flatten (lines_said (event_line_at s) (events - k) i)) ≡ sets after ((k + 1) * notice_numbers) rest
        = ap (λ (l : List (List ℕ)). sets list (k * notice_numbers) (flatten l)) (said_more (event_line_at s) events k i more whole)
        ∙ sets_append said rest list (k * notice_numbers)
        ∙ rw (event_three s i next whole, put.1, index) in
        record { ends = h.ends ∙ lines_more (event_line_at s) events k i more 4 whole; stores = h.stores ∙ stored }

pub ruleset events_laws = (events_start, events_end)
