-- Theorems of the call on one event: where it is not refused, every needed place lies in the book; and whatever it answers, the energy
-- beside it is at most 1,500,000,000 eighteenths of a Wh.
-- Assumes nothing.
use Prim.Native.Nat.{ℕ, zero, suc, ◌-◌, ◌*◌, ◌≤◌, ◌<◌}
use mathlib.Core.List.{List, ◌∷◌, ◌++◌, map}
use mathlib.Core.Logic.{inl, inr}
use mathlib.Core.Path.{◌≡◌, refl}
use native.Mathlib.Omega.{arith}
use lib.ListN.{length, length-map}
use Rattle.laws.specs.Bounds.{largest_energy}
use Rattle.book.proofs.FirstFault.{Holds, FaultTells}
use Rattle.book.proofs.PartLaws.{part_earlier, places_in}
use Rattle.book.proofs.PlaceLaws.{at_hours}
use Rattle.book.proofs.RunLaws.{hours_long, hours_below}
use Rattle.book.proofs.SumLaws.{sum_most}
use Rattle.book.specs.Places.{InDay, hours_from}
use Rattle.book.specs.Readings.{drawn_at, first_fault}
use Rattle.book.specs.Values.{largest_reading}
use Rattle.std.specs.Prelude.{Option, Some, None}
use Rattle.book.specs.declared.values.Fault.TheVariants.{Missing, TooLarge}
use Rattle.book.specs.declared.values.Fault.{Fault}
use Rattle.calendar.specs.declared.answers.Winter.{Winter}
use Rattle.laws.specs.Table.{first_of}
use Rattle.laws.proofs.Every.{Every, left, right, joined, imply, map_of}
use Rattle.notices.specs.declared.notices.Notice.{Notice}
use Rattle.energy.specs.Asked.{Asked, asked_by, needed}
use Rattle.energy.specs.Energy.{trimmed_at, energy_of}
use Rattle.energy.specs.Line.{by_fault, line_of, event_rows, unless_refused, event_answer}
use Rattle.references.specs.ReferenceDays.{free_in, reference_days}
use Rattle.references.specs.WarmUp.{warm_up}
use Rattle.energy.specs.Event.{Event}
use Rattle.energy.proofs.CallLaws.{call_taken}
use Rattle.energy.proofs.EnergyBound.{trimmed_bound, spared_bound}
use Rattle.energy.proofs.HourLaws.{warm_below}
use Rattle.references.proofs.Nearest.{refs_serve, refs_few}
use Rattle.energy.proofs.WhyUnsettled.{Why, line_why}

-- readings: those of a clean event are at most the largest
module _ (book : List ℕ) (q : Asked) (five : length q.refs ≡ 5) (all : Every (Holds book) (needed q)) where
  abbrev HourMost : ℕ → Type 0
  HourMost h = Every (λ (d : ℕ). drawn_at book d h ≤ largest_reading) (q.day ∷ q.refs)

  hours_most : Every HourMost (q.warm ++ q.event)
  unfolding needed
  hours_most = at_hours (Holds book) (q.warm ++ q.event) (q.day ∷ q.refs) all

  drawn_most : Every (λ (h : ℕ). drawn_at book q.day h ≤ largest_reading) (q.warm ++ q.event)
  drawn_most = imply HourMost _ (λ h x. x.0) (q.warm ++ q.event) hours_most

  trimmed_most : Every (λ (h : ℕ). trimmed_at book q.refs h ≤ 3 * largest_reading) (q.warm ++ q.event)
  unfolding trimmed_at
  trimmed_most =
      imply HourMost _
      (λ h x. trimmed_bound largest_reading (map (λ (d : ℕ). drawn_at book d h) q.refs) (simp length-map five)
      (map_of _ (λ (d : ℕ). drawn_at book d h) q.refs x.1))
      (q.warm ++ q.event)
      hours_most

  readings_most : length q.event ≤ 4 → energy_of book q ≤ largest_energy
  unfolding energy_of
  readings_most b =
      spared_bound (length q.event) (length q.warm) _ _ _ _ b
      (sum_most (trimmed_at book q.refs) (3 * largest_reading) q.event (right _ q.warm q.event trimmed_most))
      (sum_most (drawn_at book q.day) largest_reading q.warm (left _ q.warm q.event drawn_most))

-- so a line of at most four event hours and five reference days has no more than the largest energy
module _ (book : List ℕ) (q : Asked) (few_refs : length q.refs ≤ 5) (few_hours : length q.event ≤ 4) where
  by_fault_lem : (f : Option Fault) → 5 ≤ length q.refs → FaultTells book (needed q) f → (by_fault f (energy_of book q)).energy ≤ largest_energy
  by_fault_lem None five told = readings_most book q (omega arith) told few_hours
  by_fault_lem (Some (Missing p)) five told = omega arith
  by_fault_lem (Some (TooLarge p)) five told = omega arith

  pub energy_most : (line_of book q).energy ≤ largest_energy
  energy_most = by (line_of book q) (line_why book q)
    where
      by : (e : Event) → Why book q e → e.energy ≤ largest_energy
      by e (inl few) = rw few.says (omega arith)
      by e (inr enough) = rw enough.says (by_fault_lem (first_fault book (needed q)) enough.five_refs enough.told)

module _ (w : Winter) (book masks : List ℕ) (n : Notice) where
  abbrev refs : List ℕ
  refs = reference_days w (free_in masks) n.day n.start

  pub needed_in : (event_answer w book masks n).number ≡ 0 → Every (λ (p : ℕ). p < length book) (needed (asked_by w (free_in masks) n))
  unfolding needed asked_by
  needed_in e =
      let taken = call_taken w book masks n e in
      let in_band = taken.spans in
      let warm = warm_below w n.day n.start (omega (arith, in_band.in_day, in_band.some_hour)) in
      let event = hours_below n.start (n.end - n.start) (omega (arith, in_band.in_day, in_band.some_hour)) in
      let hours = joined InDay (warm_up w n.day n.start) (hours_from n.start (n.end - n.start)) warm event in
      let there =
      imply _ _ (λ d p. part_earlier w (length book) n.day d taken.there (omega (arith, p.earlier))) refs
      (refs_serve w (free_in masks) n.day n.start) in
      places_in w (length book) _ _ hours (taken.there, there)

  line_most : (event_answer w book masks n).number ≡ 0 → (line_of book (asked_by w (free_in masks) n)).energy ≤ largest_energy
  unfolding asked_by
  line_most e =
      let taken = call_taken w book masks n e in
      energy_most book (asked_by w (free_in masks) n) (refs_few w (free_in masks) n.day n.start)
      (omega (arith, hours_long n.start (n.end - n.start), taken.spans.few))

  pub answer_most : (event_answer w book masks n).event.energy ≤ largest_energy
  unfolding event_answer
  answer_most = by (first_of (event_rows w (length book) n)).number refl
    where
      by : (number : ℕ) → (first_of (event_rows w (length book) n)).number ≡ number
          → (unless_refused number (line_of book (asked_by w (free_in masks) n))).event.energy ≤ largest_energy
      by zero e = line_most (rw e)
      by (suc number) e = omega arith
