-- Laws of the settlement, one for each way out: refused, with nothing written, or settled by the lines and their totals, which the notices of an
-- accepted list are ready for.
-- Assumes nothing.
use Prim.Native.Nat.{ℕ, ◌*◌, ◌≤◌}
use mathlib.Core.Bool.{Bool, true, false, true≢false}
use mathlib.Core.List.{List, append-nil}
use mathlib.Core.Logic.{⊎_elim}
use mathlib.Core.Path.{◌≡◌, refl, sym, ap, ◌∙◌}
use native.Mathlib.Nat.{le_of_eq}
use native.Mathlib.Omega.{arith}
use lib.ListN.{length, get_or, drop_of_length-le}
use borrow.Author.Tests.{ne_eqb}
use Rattle.dates.proofs.Promise.{days_range}
use Rattle.laws.specs.Answer.{Answer}
use Rattle.laws.specs.Bounds.{largest_number, largest_place}
use Rattle.laws.specs.Table.{refusal_at, first_of, is_refusal}
use Rattle.notices.proofs.HourLaws.{Inside}
use Rattle.notices.proofs.NoticeLaws.{hours_are}
use Rattle.notices.proofs.ProfileLaws.{option_figures}
use Rattle.notices.specs.Notices.{count_of}
use Rattle.notices.specs.Profiles.{power_option, figures_of}
use Rattle.notices.specs.declared.notices.Notice.{Notice}
use Rattle.notices.specs.declared.profiles.Profile.TheVariants.{PowerOption}
use Rattle.refusals.proofs.RuleNumbers.{refused_is}
use Rattle.refusals.specs.Refusals.{verdict_paper}
use Rattle.refusals.specs.declared.refusal.Refusal.{Refusal}
use Rattle.std.specs.Prelude.{Err, ⊤}
use Rattle.schedule.proofs.Lawful.{Sound}
use Rattle.power.specs.Lines.{power_line_numbers, power_lines_to, power_lines_in}
use Rattle.power.specs.Ready.{Ready, AllReady}
use Rattle.power.specs.Reduced.{reduced_at}
use Rattle.power.specs.Refusals.{total_numbers, largest_reference, power_call_rows, power_refusal}
use Rattle.power.specs.Settlement.{PowerSettlement, power_paper, power_refused_with, power_totals_of}
use Rattle.power.specs.Settlement.{power_settled_by, power_written_by, power_settlement, power_written}
use Rattle.power.proofs.RefusalLaws.{PowerSettles, by_call, refusal_room, refusal_bounded}

-- a notice that keeps its own rules has three or four hours of a day of the book
pub sound_ready : {w reference : ℕ} {n : Notice} → Sound w (figures_of PowerOption) n → reference ≤ largest_reference → Ready reference n
sound_ready {w} {reference} {n} sound low =
    let s : Sound w power_option n = rw (← option_figures) sound in
    record {
      low = low;
      in_book = omega (arith, s.period, days_range w);
      some_hour = s.some_hour;
      in_day = ⊎_elim
          (λ (i : Inside power_option.morning n). omega (arith, i.to))
          (λ (i : Inside power_option.evening n). omega (arith, i.to))
          s.band;
      three = omega (arith, s.long.0, hours_are n);
      four = omega (arith, s.long.1, hours_are n);
    }

pub settles_ready : {w readings room totals : ℕ} {l references : List ℕ} → PowerSettles w readings l references room totals
    → AllReady l references room (count_of l)
settles_ready s =
    record {
      room_enough = s.room_enough;
      few = s.list.few;
      as_many = s.as_many;
      each = λ k h. sound_ready (s.list.each k h) (s.low k (omega (arith, s.as_many)));
    }

module _ (w : ℕ) (book l references : List ℕ) (room totals : ℕ) where
  abbrev refusal : Answer
  refusal = power_refusal w (length book) l references room totals

  pub settled_by_lem : is_refusal refusal ≡ true → power_settlement w book l references room totals
      ≡ power_refused_with refusal.number (get_or refusal.values 0 0)
  unfolding power_settlement power_settled_by
  settled_by_lem e = rw e

  pub settled_accepted : is_refusal refusal ≡ false → power_settlement w book l references room totals
      ≡ power_totals_of (reduced_at book l references) (count_of l)
  unfolding power_settlement power_settled_by
  settled_accepted e = rw e

  -- an answer with number 0 is no refusal
  pub number_is : (power_settlement w book l references room totals).number ≡ 0 → is_refusal refusal ≡ false
  number_is e = by (is_refusal refusal) refl
    where
      by : (b : Bool) → is_refusal refusal ≡ b → is_refusal refusal ≡ false
      by true q =
          let z : refusal.number ≡ 0 = ap (λ (s : PowerSettlement). s.number) (sym (settled_by_lem q)) ∙ e in
          absurd (true≢false (sym q ∙ rw z refl))
      by false q = q

  -- numbers and places are bounded
  pub settlement_bounded : ((power_settlement w book l references room totals).number ≤ largest_number)
      × ((power_settlement w book l references room totals).place ≤ largest_place)
  settlement_bounded = by (is_refusal refusal) refl
    where
      by : (b : Bool) → is_refusal refusal ≡ b
          → ((power_settlement w book l references room totals).number ≤ largest_number)
          × ((power_settlement w book l references room totals).place ≤ largest_place)
      by true q = rw (settled_by_lem q) (refusal_bounded w (length book) l references room totals)
      by false q = rw (settled_accepted q) (omega arith, omega arith)

  -- what is refused is answered by the refusal
  module _ (r : Refusal) (said : verdict_paper {A = ⊤} (Err r) ≡ refusal) where
    pub refused_lem : is_refusal refusal ≡ true
    refused_lem = rw (← said) (refused_is r.rule r.place)

    pub refused_answer : power_paper (Err r) ≡ power_settlement w book l references room totals
    refused_answer = sym (settled_by_lem refused_lem ∙ rw (← said) refl)

  -- a call that its winter or lengths refuse
  pub call_refused : (number : ℕ) → refusal_at number 0 ≡ first_of (power_call_rows w (length book) (length l) room totals (length references))
      → (number ≡ 0 → ⊥)
      → power_refused_with number 0 ≡ power_settlement w book l references room totals
  call_refused number e f =
      let is = by_call w (length book) l references room totals number e f in
      let refused : is_refusal refusal ≡ true = rw (← is, ne_eqb number 0 f) in
      sym (settled_by_lem refused ∙ rw (← is) refl)

  -- of the rooms only that they are large enough counts
  pub settled_room : (other more : ℕ) → power_line_numbers * count_of l ≤ room → power_line_numbers * count_of l ≤ other → total_numbers ≤ totals
      → total_numbers ≤ more
      → power_settlement w book l references room totals ≡ power_settlement w book l references other more
  unfolding power_settlement
  settled_room other more h g s t = rw (refusal_room w (length book) l references room other totals more h g s t)

module _ (w : ℕ) (book l references out : List ℕ) (totals : ℕ) where
  pub written_by_lem : is_refusal (power_refusal w (length book) l references (length out) totals) ≡ true → power_written w book l references out totals ≡ out
  unfolding power_written power_written_by
  written_by_lem e = rw e

  pub written_accepted : is_refusal (power_refusal w (length book) l references (length out) totals) ≡ false
      → power_written w book l references out totals ≡ power_lines_in (reduced_at book l references) (count_of l) out
  unfolding power_written power_written_by
  written_accepted e = rw e

  -- an output with just the room for the lines is they
  pub written_just : length out ≡ power_line_numbers * count_of l → (power_settlement w book l references (length out) totals).number ≡ 0
      → power_written w book l references out totals ≡ power_lines_to (reduced_at book l references) (count_of l)
  written_just e z =
      written_accepted (number_is w book l references (length out) totals z)
      ∙ rw (drop_of_length-le out (le_of_eq e)) (append-nil (power_lines_to (reduced_at book l references) (count_of l)))
