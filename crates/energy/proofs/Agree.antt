-- What a line says depends on the needed readings only: two books that agree on them give the same line, and two books of one length
-- the same answer to the call.
-- Assumes nothing.
use Prim.Native.Nat.{ℕ}
use mathlib.Core.List.{List}
use mathlib.Core.Path.{◌≡◌, sym, ◌∙◌}
use native.Mathlib.Nat.{one-mul}
use lib.ListN.{length}
use Rattle.book.proofs.FaultLaws.{fault_agrees}
use Rattle.book.specs.Readings.{reading_at}
use Rattle.calendar.specs.declared.answers.Winter.{Winter}
use Rattle.laws.proofs.Every.{Every, imply}
use Rattle.notices.specs.declared.notices.Notice.{Notice}
use Rattle.energy.specs.Asked.{Asked, asked_by, needed}
use Rattle.energy.specs.Energy.{energy_of}
use Rattle.references.specs.ReferenceDays.{free_in}
use Rattle.energy.specs.Line.{line_of, event_answer}
use Rattle.energy.proofs.Scaled.{Times, energy_scaled}

module _ (book other : List ℕ) where
  -- the two have one reading at a place
  abbrev pub Agrees : ℕ → Type 0
  Agrees p = reading_at book p ≡ reading_at other p

  pub energy_agrees : (q : Asked) → Every Agrees (needed q) → energy_of book q ≡ energy_of other q
  unfolding energy_of
  energy_agrees q a =
      energy_scaled 1 other book q (imply Agrees (Times 1 (reading_at other) (reading_at book)) (λ p h. h ∙ sym (one-mul _)) (needed q) a) ∙ simp one-mul

  pub line_agrees : (q : Asked) → Every Agrees (needed q) → line_of book q ≡ line_of other q
  unfolding line_of
  line_agrees q a = rw (fault_agrees book other (needed q) a, energy_agrees q a)

  pub event_agrees : (w : Winter) (masks : List ℕ) (n : Notice) → length book ≡ length other → Every Agrees (needed (asked_by w (free_in masks) n))
      → event_answer w book masks n ≡ event_answer w other masks n
  unfolding event_answer
  event_agrees w masks n e a = rw (e, line_agrees (asked_by w (free_in masks) n) a)
