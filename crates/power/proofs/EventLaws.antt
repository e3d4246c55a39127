-- Laws of what an event spared: its needed readings are a run of places, its energy is at most what its reference allows, its reduction is whole
-- and not too large, and all of it goes by its needed readings alone.
-- Assumes nothing.
use Prim.Native.Nat.{ℕ, ◌-◌, ◌*◌, ◌/◌, ◌≤◌, ◌<◌}
use mathlib.Core.Bool.{Bool, true, false}
use mathlib.Core.List.{List}
use mathlib.Core.Path.{◌≡◌, refl}
use native.Mathlib.Nat.{le_trans, mul-le-mul}
use native.Mathlib.Omega.{arith}
use lib.Dec.{eqb}
use Rattle.book.proofs.FaultLaws.{fault_agrees}
use Rattle.book.proofs.FirstFault.{fault_among}
use Rattle.book.proofs.PlaceLaws.{places_run}
use Rattle.book.proofs.RunLaws.{run_below}
use Rattle.book.proofs.SumLaws.{sum_same}
use Rattle.book.specs.Length.{most_readings}
use Rattle.book.specs.Places.{InDay, hour_place, run}
use Rattle.book.specs.Readings.{reading_at, first_fault, sum_over}
use Rattle.energy.proofs.WhyUnsettled.{fault_small}
use Rattle.energy.proofs.PaperLaws.{event_energy}
use Rattle.energy.specs.Event.{event_paper}
use Rattle.energy.specs.Line.{by_fault}
use Rattle.energy.specs.declared.events.Unsettled.{Unsettled}
use Rattle.std.specs.Prelude.{Result}
use Rattle.std.specs.Result.{result_unwrap_or}
use Rattle.laws.proofs.Every.{Every, imply, map_of}
use Rattle.laws.specs.Answer.{bit}
use Rattle.notices.specs.Notices.{notice_at, hours_of}
use Rattle.notices.specs.declared.notices.Notice.{Notice}
use Rattle.power.specs.Lines.{settled_one}
use Rattle.power.specs.Ready.{Ready, largest_reduction}
use Rattle.power.specs.Reduced.{Reduced, needed_of, spared_by, event_of, reduction_of, reduced_of, reference_at, reduced_at}
use Rattle.power.specs.Refusals.{largest_reference}
use Rattle.power.proofs.HourShares.{fault_energy, over_hours, fault_reduction}

-- what an event at most comes to
pub record SmallEvent (r : Reduced) : Type 0 where
  pub code : r.event.code ≤ 22
  pub place : r.event.place < most_readings
  pub energy : r.event.energy ≤ 4 * largest_reference
  pub reduction : r.reduction ≤ largest_reduction

one_most : (b : Bool) → largest_reduction * bit b ≤ largest_reduction
one_most true = omega arith
one_most false = omega arith

pub needed_run : (n : Notice) → needed_of n ≡ run (hour_place n.day n.start) (hour_place n.day n.end)
unfolding needed_of
needed_run n = places_run n.day n.start n.end

module _ (book : List ℕ) (reference : ℕ) (n : Notice) where
  -- the event, by a run of places and its sum
  pub event_is : (from to drawn hours : ℕ) → from ≡ hour_place n.day n.start → to ≡ hour_place n.day n.end
      → drawn ≡ sum_over (reading_at book) (run from to) → hours ≡ hours_of n
      → by_fault (first_fault book (run from to)) (reference * hours - drawn) ≡ event_of book reference n
  unfolding event_of spared_by
  event_is from to drawn hours f t d h = rw (d, h, f, t, needed_run n)

  pub reduced_is : (e : Result ℕ Unsettled) (energy hours : ℕ) → event_paper e ≡ event_of book reference n → energy ≡ result_unwrap_or e 0
      → hours ≡ hours_of n → record { event = event_paper e; reduction = 12 * energy / hours } ≡ reduced_of book reference n
  unfolding reduced_of reduction_of
  reduced_is e energy hours is own h = rw (own, event_energy e, is, h)

  module _ (ready : Ready reference n) where
    -- the reference at every hour is not too much
    pub whole_most : (hours : ℕ) → hours ≡ hours_of n → reference * hours ≤ 4 * largest_reference
    whole_most hours e = rw e (omega (arith, mul-le-mul ready.low ready.four))

    energy_below : (event_of book reference n).energy ≤ reference * hours_of n
    unfolding event_of spared_by
    energy_below =
        le_trans (fault_energy (first_fault book (needed_of n)) (reference * hours_of n - sum_over (reading_at book) (needed_of n))) (omega arith)

    pub energy_most : (event_of book reference n).energy ≤ 4 * largest_reference
    energy_most = le_trans energy_below (whole_most (hours_of n) refl)

    pub own_most : (e : Result ℕ Unsettled) → event_paper e ≡ event_of book reference n → result_unwrap_or e 0 ≤ 4 * largest_reference
    own_most e is = rw (event_energy e, is) energy_most

    -- and an unsettled event has none
    pub reduction_most : (reduced_of book reference n).reduction ≤ largest_reduction * settled_one (reduced_of book reference n).event
    unfolding reduced_of reduction_of event_of spared_by
    reduction_most =
        fault_reduction (first_fault book (needed_of n)) (reference * hours_of n - sum_over (reading_at book) (needed_of n)) (hours_of n) reference ready.three
        ready.four ready.low (omega arith)

    -- codes and places are small
    places_in : Every (λ (p : ℕ). p < most_readings) (needed_of n)
    unfolding needed_of
    places_in =
        map_of (λ (p : ℕ). p < most_readings) (λ (h : ℕ). hour_place n.day h) (run n.start n.end)
        (imply InDay (λ (h : ℕ). hour_place n.day h < most_readings) (λ h b. omega (arith, ready.in_book)) (run n.start n.end)
        (run_below n.start n.end (omega (arith, ready.some_hour)) ready.in_day))

    pub event_small : ((event_of book reference n).code ≤ 22) × ((event_of book reference n).place < most_readings)
    unfolding event_of
    event_small =
        fault_small most_readings (omega arith) (first_fault book (needed_of n)) (spared_by book reference n)
        (fault_among book (λ (p : ℕ). p < most_readings) (needed_of n) places_in)

-- what is told of an event: by its first fault, and its reduction by its energy
module _ (book : List ℕ) (reference : ℕ) (n : Notice) where
  pub event_by_fault : (reduced_of book reference n).event
      ≡ by_fault (first_fault book (needed_of n)) (reference * hours_of n - sum_over (reading_at book) (needed_of n))
  unfolding reduced_of event_of spared_by
  event_by_fault = refl

  pub reduction_by : (reduced_of book reference n).reduction ≡ reduction_of n (reduced_of book reference n).event.energy
  unfolding reduced_of
  reduction_by = refl

  -- all of it fits
  pub reduced_small : Ready reference n → SmallEvent (reduced_of book reference n)
  unfolding reduced_of
  reduced_small ready =
      let small = event_small book reference n ready in
      record {
        code = small.0;
        place = small.1;
        energy = energy_most book reference n ready;
        reduction = le_trans (reduction_most book reference n ready) (one_most (eqb (event_of book reference n).code 0));
      }

pub reduced_at_lem : (book l references : List ℕ) (k : ℕ) → reduced_at book l references k ≡ reduced_of book (reference_at references k) (notice_at l k)
unfolding reduced_at
reduced_at_lem book l references k = refl

-- hours times reduction is twelve times the energy
pub reduction_whole : (n : Notice) (energy : ℕ) → 3 ≤ hours_of n → hours_of n ≤ 4 → hours_of n * reduction_of n energy ≡ 12 * energy
unfolding reduction_of
reduction_whole n energy three four = over_hours (hours_of n) energy three four

-- rule 11.2: two books that agree on the needed readings give the same event and reduction
pub reduced_agrees : (book other : List ℕ) (reference : ℕ) (n : Notice) → Every (λ (p : ℕ). reading_at book p ≡ reading_at other p) (needed_of n)
    → reduced_of book reference n ≡ reduced_of other reference n
unfolding reduced_of event_of spared_by
reduced_agrees book other reference n a =
    rw (fault_agrees book other (needed_of n) a, sum_same (reading_at book) (reading_at other) (needed_of n) a)

pub ruleset event_laws = (event_is, whole_most)

pub ruleset reduced_laws = (reduced_is, own_most)
