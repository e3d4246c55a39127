-- Laws of the line: what the search's answer and the hours that the code holds mean for what an event asks, one law for each way out.
-- Assumes nothing.
use Prim.Native.Nat.{ℕ, ◌≤◌, ◌<◌}
use mathlib.Core.Bool.{Bool, false}
use mathlib.Core.List.{List}
use mathlib.Core.Path.{◌≡◌, refl, sym, ◌∙◌}
use native.Mathlib.Omega.{arith}
use lib.ListN.{length, get_or}
use lib.Seq.{take_all}
use borrow.Author.Tests.{lt-ltb}
use Rattle.book.proofs.PartLaws.{part_earlier}
use Rattle.book.specs.Part.{no_part}
use Rattle.calendar.specs.declared.answers.Winter.{Winter}
use Rattle.laws.proofs.Every.{at}
use Rattle.notices.specs.declared.notices.Notice.{Notice}
use Rattle.energy.specs.Asked.{asked_by}
use Rattle.energy.specs.HoursOf.{HoursFor, asked_in}
use Rattle.energy.specs.Line.{line_of}
use Rattle.energy.specs.Ready.{PartsReady}
use Rattle.references.specs.ReferenceDays.{serves, reference_days}
use Rattle.energy.specs.Event.{Event, unsettled}
use Rattle.energy.specs.declared.hours.Hours.{Hours}
use Rattle.references.specs.declared.search.Refs.{Refs}
use Rattle.references.proofs.FoundLaws.{Finds}
use Rattle.references.proofs.Nearest.{Passes, refs_serve, refs_few}

-- the search's answer r: fewer than five days, or the five
module _ (w : Winter) (free : ℕ → Bool) (n : Notice) (r : List ℕ) (found : r ≡ reference_days w free n.day n.start) where
  pub line_few : (book : List ℕ) → (length r ≡ 5 → ⊥) → unsettled 20 0 ≡ line_of book (asked_by w free n)
  unfolding line_of asked_by
  line_few book few =
      let most : length r ≤ 5 = rw found (refs_few w free n.day n.start) in
      rw (← found, lt-ltb (length r) 5 (omega (arith, few)))

  pub parts_ready : (numbers : ℕ) → no_part w numbers n.day ≡ false → PartsReady w numbers n.day r
  parts_ready numbers there = record {
    day_there = there;
    refs_there = λ (k d : ℕ) (b : k < length r). part_earlier w numbers n.day (get_or r k d) there (omega (arith, (serving k d b).earlier));
  }
    where
      serving : (k d : ℕ) → k < length r → Passes (serves w free n.day n.start) n.day (get_or r k d)
      serving k d b = at (Passes (serves w free n.day n.start) n.day) r k d b (rw found (refs_serve w free n.day n.start))

  module _ (hours : Hours) (is : HoursFor w n.day n.start n.end hours) where
    -- what the code asks is what the event asks
    pub line_five : (book : List ℕ) {e : Event} → e ≡ line_of book (asked_in n.day hours r) → e ≡ line_of book (asked_by w free n)
    unfolding asked_by
    line_five book q = rw (← is.warm_are, ← is.event_are, ← found) q

-- the call's answer r: it counts fewer than five days, or its array is the five
module _ (w : Winter) (free : ℕ → Bool) (n : Notice) (r : Refs) (found : Finds (reference_days w free n.day n.start) r) where
  pub counted_few : (book : List ℕ) → r.count < 5 → unsettled 20 0 ≡ line_of book (asked_by w free n)
  counted_few book few = line_few w free n (reference_days w free n.day n.start) refl book (λ e. omega (arith, found.counted))

  pub days_are : 5 ≤ r.count → r.days ≡ reference_days w free n.day n.start
  days_are enough = sym (take_all r.count r.days (omega (arith, found.long))) ∙ found.first
