-- On the parts of a book's days the rules of an event are the book's: the first fault, the spared energy and so the line. Each part's
-- reading of an hour is the book's at the hour's place.
-- Assumes nothing.
use Prim.Native.Nat.{ℕ, suc, ◌<◌}
use mathlib.Core.List.{List, [], ◌∷◌, ◌++◌, map}
use mathlib.Core.Path.{◌≡◌, refl, ap, ◌∙◌}
use native.Mathlib.Omega.{arith}
use lib.ListN.{length, get_or}
use borrow.Author.Tests.{le-ltb}
use Rattle.book.proofs.FaultLaws.{or_none, or_assoc}
use Rattle.book.proofs.PartLaws.{part_day, no_days, day_first, part_fault}
use Rattle.book.proofs.RunLaws.{run_long}
use Rattle.book.proofs.SumLaws.{sum_same}
use Rattle.book.specs.Part.{PartOf, fault_on}
use Rattle.book.specs.Places.{InDay, places_on}
use Rattle.book.specs.Readings.{reading_at, drawn_at, first_fault, sum_over}
use Rattle.book.specs.Values.{or_fault}
use Rattle.std.specs.Prelude.{Option, None}
use Rattle.book.specs.declared.values.Fault.{Fault}
use Rattle.calendar.specs.declared.answers.Winter.{Winter}
use Rattle.laws.proofs.Every.{Every, joined, imply}
use Rattle.energy.specs.Asked.{needed}
use Rattle.energy.specs.Energy.{trimmed_at, energy_of}
use Rattle.energy.specs.HoursOf.{HoursIn, warm_run, event_run, asked_in}
use Rattle.energy.specs.Line.{line_of}
use Rattle.energy.specs.Parts.{numbers_of, parts_of, parts_fault, trimmed_in, parts_energy, parts_line}
use Rattle.energy.specs.Ready.{DaysReady, PartsReady, IsDay, AreDays}
use Rattle.energy.specs.Trimmed.{trimmed_of}
use Rattle.energy.specs.declared.days.Day.{Day}
use Rattle.energy.specs.declared.days.SixDays.{SixDays}
use Rattle.energy.specs.Event.{Event}
use Rattle.energy.specs.declared.hours.Hours.{Hours}
use Rattle.energy.proofs.HourLaws.{warm_hours, event_hours_lem, warm_counted}

module _ (book : List ℕ) where
  -- the parts of some days
  abbrev pub AreParts : List ℕ → List (List ℕ) → Type 0
  AreParts [] [] = Unit {0}
  AreParts [] (p ∷ ps) = ⊥
  AreParts (d ∷ ds) [] = ⊥
  AreParts (d ∷ ds) (p ∷ ps) = PartOf book d p × AreParts ds ps

  parts_fault_lem : (hours : List ℕ) → Every InDay hours → (f : Option Fault) (ds : List ℕ) (ps : List (List ℕ)) → AreParts ds ps
      → parts_fault hours f ds ps ≡ or_fault f (first_fault book (places_on hours ds))
  unfolding parts_fault
  parts_fault_lem hours in_day f [] [] are = rw (no_days book hours) (or_none f)
  parts_fault_lem hours in_day f [] (p ∷ ps) are = absurd are
  parts_fault_lem hours in_day f (d ∷ ds) [] are = absurd are
  parts_fault_lem hours in_day f (d ∷ ds) (p ∷ ps) are =
      parts_fault_lem hours in_day (or_fault f (fault_on d (first_fault p hours))) ds ps are.1
      ∙ or_assoc f (fault_on d (first_fault p hours)) (first_fault book (places_on hours ds))
      ∙ rw (part_fault book d are.0 hours in_day, day_first book hours d ds)

  mapped_parts : (h : ℕ) → InDay h → (ds : List ℕ) (ps : List (List ℕ)) → AreParts ds ps
      → map (λ (p : List ℕ). reading_at p h) ps ≡ map (λ (d : ℕ). drawn_at book d h) ds
  mapped_parts h b [] [] are = refl
  mapped_parts h b [] (p ∷ ps) are = absurd are
  mapped_parts h b (d ∷ ds) [] are = absurd are
  mapped_parts h b (d ∷ ds) (p ∷ ps) are = rw (are.0.each h b, mapped_parts h b ds ps are.1)

  trimmed_same : (ds : List ℕ) (ps : List (List ℕ)) → AreParts ds ps → (h : ℕ) → InDay h → trimmed_in ps h ≡ trimmed_at book ds h
  unfolding trimmed_in trimmed_at
  trimmed_same ds ps are h b = ap trimmed_of (mapped_parts h b ds ps are)

-- an event day's part and those of its reference days
module _ (book : List ℕ) (hours : Hours) (inside : HoursIn hours) (day : ℕ) (event : List ℕ) (is : PartOf book day event)
    (refs : List ℕ) (parts : List (List ℕ)) (are : AreParts book refs parts) where
  fault_is : parts_fault (warm_run hours ++ event_run hours) None (day ∷ refs) (event ∷ parts)
      ≡ first_fault book (places_on (warm_run hours ++ event_run hours) (day ∷ refs))
  fault_is =
      let in_day = joined InDay (warm_run hours) (event_run hours) (warm_hours hours inside) (event_hours_lem hours inside) in
      parts_fault_lem book (warm_run hours ++ event_run hours) in_day None (day ∷ refs) (event ∷ parts) (is, are)

  energy_is : parts_energy hours event parts ≡ energy_of book (asked_in day hours refs)
  unfolding parts_energy energy_of
  energy_is =
      rw (
        run_long hours.event.from hours.event.to,
        warm_counted hours,
        trims (event_run hours) (event_hours_lem hours inside),
        trims (warm_run hours) (warm_hours hours inside),
        drawn (warm_run hours) (warm_hours hours inside),
        drawn (event_run hours) (event_hours_lem hours inside),
      )
    where
      trims : (hs : List ℕ) → Every InDay hs → sum_over (trimmed_in parts) hs ≡ sum_over (trimmed_at book refs) hs
      trims hs in_day = sum_same (trimmed_in parts) (trimmed_at book refs) hs (imply InDay _ (trimmed_same book refs parts are) hs in_day)

      drawn : (hs : List ℕ) → Every InDay hs → sum_over (reading_at event) hs ≡ sum_over (drawn_at book day) hs
      drawn hs in_day = sum_same (reading_at event) (drawn_at book day) hs (imply InDay _ is.each hs in_day)

  line_is : length refs ≡ 5 → parts_line day refs hours event parts ≡ line_of book (asked_in day hours refs)
  unfolding line_of needed parts_line
  line_is five_refs = rw (le-ltb (length refs) 5 (omega arith), fault_is, energy_is)

-- what six days of one book come to
module _ (book : List ℕ) where
  abbrev DaysAre : List ℕ → List Day → Type 0
  DaysAre refs days = (k : ℕ) (d : Day) → k < length refs → IsDay book (get_or refs k 0) (get_or days k d)

  numbers_are : (refs : List ℕ) (days : List Day) → length days ≡ length refs → DaysAre refs days → numbers_of days ≡ refs
  numbers_are [] [] long are = refl
  numbers_are [] (d ∷ ds) long are = absurd (omega arith)
  numbers_are (r ∷ rs) [] long are = absurd (omega arith)
  numbers_are (r ∷ rs) (d ∷ ds) long are =
      rw (are 0 d (omega arith)).number_is
      (ap (λ (ns : List ℕ). r ∷ ns) (numbers_are rs ds (omega arith) (λ k e b. are (suc k) e (omega arith))))

  are_parts : (refs : List ℕ) (days : List Day) → length days ≡ length refs → DaysAre refs days → AreParts book refs (parts_of days)
  are_parts [] [] long are = tt
  are_parts [] (d ∷ ds) long are = absurd (omega arith)
  are_parts (r ∷ rs) [] long are = absurd (omega arith)
  are_parts (r ∷ rs) (d ∷ ds) long are =
      ((are 0 d (omega arith)).part, are_parts rs ds (omega arith) (λ k e b. are (suc k) e (omega arith)))

  module _ (day : ℕ) (refs : List ℕ) (days : SixDays) (is : AreDays book day refs days) (five_refs : length refs ≡ 5)
      (hours : Hours) (inside : HoursIn hours) where
    -- with their parts in a winter's book their places are small
    pub days_ready : (w : Winter) (n : ℕ) → PartsReady w n day refs → DaysReady days hours
    days_ready w n ready = record {
      five_refs = is.long ∙ five_refs;
      day_fits = rw is.event_is.number_is (part_day w n day ready.day_there);
      refs_fit =
          λ (k : ℕ) (d : Day) (b : k < length days.refs).
          let there : k < length refs = omega (arith, is.long) in
          rw (is.refs_are k d there).number_is (part_day w n (get_or refs k 0) (ready.refs_there k 0 there));
      hours_within = inside;
    }

    -- the line by them is the line by the book
    pub book_line : {e : Event} → e ≡ parts_line days.event.number (numbers_of days.refs) hours days.event.readings.now (parts_of days.refs)
        → e ≡ line_of book (asked_in day hours refs)
    book_line e =
        let are = are_parts refs days.refs is.long is.refs_are in
        rw (is.event_is.number_is, numbers_are refs days.refs is.long is.refs_are) at e
        ∙ line_is book hours inside day days.event.readings.now is.event_is.part refs (parts_of days.refs) are five_refs
