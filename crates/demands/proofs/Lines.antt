-- The line of an event of an accepted list, joined from the laws of the layers: reference days by masks are those by notices, five are always
-- found, what the clocks change is not read, and what the first fault tells decides.
-- Assumes nothing.
use Prim.Native.Nat.{ℕ, ◌≤◌}
use mathlib.Core.Bool.{Bool, true}
use mathlib.Core.List.{List}
use mathlib.Core.Logic.{inl, inr, ◌↔◌}
use mathlib.Core.Path.{◌≡◌, ap}
use native.Mathlib.Omega.{arith}
use lib.ListN.{length}
use Rattle.book.proofs.FirstFault.{Holds}
use Rattle.book.specs.Readings.{first_fault}
use Rattle.calendar.specs.WinterOf.{winter_of}
use Rattle.references.proofs.FiveFound.{free_zero, why_serves, serves_so, five_found}
use Rattle.references.proofs.ReferenceLaws.{zero_free}
use Rattle.energy.proofs.HourLaws.{whole_factor}
use Rattle.references.proofs.Nearest.{Passes, refs_serve, refs_fall, refs_all}
use Rattle.energy.proofs.WhyUnsettled.{Why, line_why, settled_where, settled_only, asked_is}
use Rattle.energy.specs.Asked.{Asked, asked_with, needed}
use Rattle.energy.specs.Energy.{energy_of}
use Rattle.energy.specs.Line.{line_of}
use Rattle.references.specs.ReferenceDays.{free_in, serves, reference_days}
use Rattle.energy.specs.Event.{Event}
use Rattle.event_hours.proofs.FreeDays.{mask_free}
use Rattle.event_hours.specs.Days.{masks_of}
use Rattle.laws.proofs.Every.{Every, imply}
use Rattle.notices.specs.declared.notices.Notice.{Notice}
use Rattle.notices.specs.declared.profiles.Figures.{Figures}
use Rattle.schedule.proofs.Standing.{Stands, Standing}
use Rattle.demands.specs.Demand2.{Serves, FiveNearest, Unsettled, EventLine}
use Rattle.demands.proofs.ByFault.{unsettled_by}
use Rattle.demands.proofs.Clocks.{no_event_yet, in_credit_band, unread}

-- reference days by the masks of a list that stands are those by its notices
module _ {y : ℕ} {f : Figures} {l : List ℕ} (st : Standing y f l) (day s : ℕ) where
  abbrev free : ℕ → Bool
  free = free_in (masks_of l)

  abbrev refs : List ℕ
  refs = reference_days (winter_of y) free day s

  by_notices : (d : ℕ) → Passes (serves (winter_of y) free day s) day d → Serves y l day s d
  by_notices d p =
      let t = why_serves (winter_of y) free day s d p.ok_is in
      record {
        earlier = p.earlier;
        same_kind = t.same_kind;
        no_event = (mask_free st d).0 (free_zero (masks_of l) d t.free_day);
        open_day = t.open_day;
        has_hours = t.has_hours;
      }

  by_masks : (d : ℕ) → Serves y l day s d → serves (winter_of y) free day s d ≡ true
  by_masks d t =
      serves_so (winter_of y) free day s d (record {
        same_kind = t.same_kind;
        free_day = zero_free (masks_of l) d ((mask_free st d).1 t.no_event);
        open_day = t.open_day;
        has_hours = t.has_hours;
      })

  pub five_nearest : 30 ≤ day → FiveNearest y l day s refs
  five_nearest later =
      record {
        five = five_found y free day s (no_event_yet st) later;
        each = imply (Passes (serves (winter_of y) free day s) day) (Serves y l day s) by_notices refs (refs_serve (winter_of y) free day s);
        nearest_first = refs_fall (winter_of y) free day s;
        no_nearer = λ d t out. (refs_all (winter_of y) free day s d t.earlier (by_masks d t) out).0;
      }

-- what a line says of the needed readings, by the first fault among them
module _ (book : List ℕ) (q : Asked) (five : length q.refs ≡ 5) where
  abbrev line : Event
  line = line_of book q

  pub settled_exactly : (line.code ≡ 0) ↔ Every (Holds book) (needed q)
  settled_exactly = (
    λ z. (settled_only book q z).all_readings_lem,
    λ all. ap (λ (e : Event). e.code) (settled_where book q (record { five_refs = omega arith; all_readings_lem = all })),
  )

  pub settled_so : line.code ≡ 0 → (line.place ≡ 0) × (line.energy ≡ energy_of book q)
  settled_so z =
      let is = settled_where book q (settled_only book q z) in
      (ap (λ (e : Event). e.place) is, ap (λ (e : Event). e.energy) is)

  pub unsettled_so : (line.code ≡ 0 → ⊥) → Unsettled book (needed q) line.code line.place line.energy
  unsettled_so = by line (line_why book q)
    where
      by : (e : Event) → Why book q e → (e.code ≡ 0 → ⊥) → Unsettled book (needed q) e.code e.place e.energy
      by e (inl few) not = absurd (omega (arith, few.few_refs))
      by e (inr enough) not =
          rw enough.says (unsettled_by book (needed q) (energy_of book q) (first_fault book (needed q)) enough.told (rw enough.says at not))

pub event_line_lem : {y : ℕ} {f : Figures} {l : List ℕ} → Standing y f l → (book : List ℕ) (n : Notice) → Stands y f n
    → (code place energy : ℕ)
    → ◌≡◌ {A = Event} (record { code = code; place = place; energy = energy })
    (line_of book (asked_with (winter_of y) n (reference_days (winter_of y) (free_in (masks_of l)) n.day n.start)))
    → EventLine y book l n code place energy
event_line_lem {y} {f} {l} st book n stands code place energy e =
    let refs = reference_days (winter_of y) (free_in (masks_of l)) n.day n.start in
    let q = asked_with (winter_of y) n refs in
    let nearest = five_nearest st n.day n.start stands.from_december in
    let five = nearest.five in
    let c : code ≡ (line_of book q).code = ap (λ (x : Event). x.code) e in
    let p : place ≡ (line_of book q).place = ap (λ (x : Event). x.place) e in
    let g : energy ≡ (line_of book q).energy = ap (λ (x : Event). x.energy) e in
    record {
      refs = refs;
      nearest = nearest;
      says = record {
        settled_iff = rw c (settled_exactly book q five);
        settled = rw (c, p, g) (settled_so book q five);
        whole_factor = whole_factor (winter_of y) n.day n.start (length q.event) (in_credit_band st n stands).late;
        unsettled = rw (c, p, g) (unsettled_so book q five);
      };
      unread = rw (asked_is (winter_of y) (free_in (masks_of l)) n) at (unread st n stands);
    }
