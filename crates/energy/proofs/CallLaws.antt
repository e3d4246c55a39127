-- The call on one event by its table: a broken row decides, and where none is the answer is the line; what is not refused has its day in the
-- book and its hours in a band; and an event whose winter, book and notice stand is not refused.
-- Assumes nothing.
use Prim.Native.Nat.{ℕ, zero, suc, ◌≤◌}
use mathlib.Core.Bool.{Bool, true, false, not, cond}
use mathlib.Core.List.{List, []}
use mathlib.Core.Path.{◌≡◌, refl, sym, ◌∙◌}
use native.Mathlib.Omega.{arith}
use lib.ListN.{length}
use borrow.Author.Tests.{eq-eqb, not-false}
use Rattle.book.proofs.LengthLaws.{length_right}
use Rattle.book.proofs.PartLaws.{part_there}
use Rattle.book.specs.Length.{book_length, wrong_length}
use Rattle.book.specs.Part.{no_part}
use Rattle.calendar.proofs.Promise.{facts_days, facts_right, period_day, past_period, in_book}
use Rattle.calendar.proofs.Answered.{kind_is, kind_in}
use Rattle.calendar.specs.Answers.{kind_paper, day_kind}
use Rattle.calendar.specs.Days.{wrong_winter, no_day, in_period}
use Rattle.calendar.specs.declared.answers.Kind.{Kind}
use Rattle.dates.specs.declared.answers.DateError.TheVariants.{NoDay}
use Rattle.dates.specs.declared.answers.DateError.{DateError}
use Rattle.calendar.specs.WinterOf.{winter_of}
use Rattle.calendar.specs.declared.answers.Winter.{Winter}
use Rattle.dates.specs.Winters.{days}
use Rattle.laws.proofs.Tables.{NoneBroken, unrefused_none, none_accepted, row_stops, row_goes}
use Rattle.laws.specs.Table.{refusal_at, first_of}
use Rattle.notices.proofs.HourLaws.{hours_iff, hours_kept}
use Rattle.notices.proofs.HoursTold.{hours_right, hours_stop}
use Rattle.notices.specs.HoursVerdict.{hour_rows}
use Rattle.notices.specs.declared.profiles.Figures.{Figures}
use Rattle.refusals.specs.declared.rule.Rule.TheVariants.{NoWinter, BadBook, OutsidePeriod}
use Rattle.energy.specs.Ready.{EventReady}
use Rattle.notices.specs.Profiles.{figures_of}
use Rattle.notices.specs.declared.notices.Notice.{Notice}
use Rattle.notices.specs.declared.profiles.Profile.TheVariants.{Credit}
use Rattle.refusals.proofs.RuleNumbers.{number_range}
use Rattle.refusals.specs.Refusals.{rule_number, rule_paper}
use Rattle.refusals.specs.declared.rule.Rule.{Rule}
use Rattle.std.specs.Prelude.{⊤, Result, Ok, Err}
use Rattle.schedule.proofs.Lawful.{Sound}
use Rattle.energy.specs.Asked.{asked_by}
use Rattle.energy.specs.HoursOf.{Spans}
use Rattle.energy.specs.Line.{line_of, told, line_paper, event_rows, unless_refused, event_answer}
use Rattle.references.specs.ReferenceDays.{free_in}
use Rattle.energy.specs.Event.{Event, settled}
use Rattle.energy.proofs.HourLaws.{in_band}

number_kept : (number : ℕ) (e : Event) → (unless_refused number e).number ≡ number
number_kept zero e = refl
number_kept (suc number) e = refl

refusal_told : (number : ℕ) (e : Event) → 1 ≤ number → told number (settled 0) ≡ unless_refused number e
refusal_told zero e b = absurd (omega arith)
refusal_told (suc number) e b = refl

-- a call that is not refused: the day is in the book, and the hours lie in a band
pub record Taken (w : Winter) (readings : ℕ) (n : Notice) : Type 0 where
  pub there : no_part w readings n.day ≡ false
  pub spans : Spans n.start n.end

-- what is not refused is ready to be settled
pub told_ready : (w : Winter) (readings : ℕ) (n : Notice) → wrong_winter w ≡ false → wrong_length w.days readings ≡ false → in_period w n.day ≡ true
    → {f : Figures} → f ≡ figures_of Credit → {v : Result ⊤ Rule} → ((k : ℕ) → rule_paper v k ≡ first_of (hour_rows f n k)) → v ≡ Ok tt
    → EventReady w readings n
told_ready w readings n right long period {f} is {v} told_hours e =
    let there = in_book w n.day period in
    record {
      book_day = record { right = right; there = there };
      day_there = part_there w readings n.day right long there;
      spans = in_band f n is (hours_right f n v told_hours e);
    }

module _ (w : Winter) (book masks : List ℕ) (n : Notice) where
  abbrev line : Event
  line = line_of book (asked_by w (free_in masks) n)

  -- by the table: refused by its first broken row, and else the line
  pub call_refused : (rule : Rule) → refusal_at (rule_number rule) 0 ≡ first_of (event_rows w (length book) n)
      → line_paper (Err rule) ≡ event_answer w book masks n
  unfolding event_answer
  call_refused rule e = rw (← e) (refusal_told (rule_number rule) line (number_range rule).0)

  pub call_settled : {e : Event} → NoneBroken (event_rows w (length book) n) → e ≡ line → told 0 e ≡ event_answer w book masks n
  unfolding event_answer
  call_settled none q = rw (none_accepted (event_rows w (length book) n) none, q)

  -- test by test
  pub told_winter : wrong_winter w ≡ true → told 1 (settled 0) ≡ event_answer w book masks n
  unfolding event_rows
  told_winter e = call_refused NoWinter (row_stops _ _ e)

  module _ (right : wrong_winter w ≡ false) where
    pub told_book : wrong_length w.days (length book) ≡ true → told 2 (settled 0) ≡ event_answer w book masks n
    unfolding event_rows
    told_book e = call_refused BadBook (row_goes _ _ right (row_stops _ _ e))

    module _ (long : wrong_length w.days (length book) ≡ false) where
      pub told_period : in_period w n.day ≡ false → told 10 (settled 0) ≡ event_answer w book masks n
      unfolding event_rows
      told_period e = call_refused OutsidePeriod (row_goes _ _ right (row_goes _ _ long (row_stops _ _ (rw e refl))))

      module _ (period : in_period w n.day ≡ true) (f : Figures) (is : f ≡ figures_of Credit) (v : Result ⊤ Rule)
          (told_hours : (k : ℕ) → rule_paper v k ≡ first_of (hour_rows f n k)) where
        pub told_rule : (rule : Rule) → v ≡ Err rule → told (rule_number rule) (settled 0) ≡ event_answer w book masks n
        unfolding event_rows
        told_rule rule e =
            let stops = hours_stop f n v told_hours 0 [] rule e in
            call_refused rule (row_goes _ _ right (row_goes _ _ long (row_goes _ _ (rw period refl) (rw is at stops))))

        pub told_line : v ≡ Ok tt → {e : Event} → e ≡ line → told 0 e ≡ event_answer w book masks n
        unfolding event_rows
        told_line e q =
            let hours = hours_right f n v told_hours e in
            call_settled (right, (long, (rw period refl, (hours_kept (figures_of Credit) n 0).1 (rw is at hours)))) q

  none_broken : (event_answer w book masks n).number ≡ 0 → NoneBroken (event_rows w (length book) n)
  unfolding event_answer event_rows
  none_broken e =
      let zero_is = sym (number_kept (first_of (event_rows w (length book) n)).number line) ∙ e in
      unrefused_none (event_rows w (length book) n) (omega arith) (rw (eq-eqb _ 0 zero_is))

  pub call_taken : (event_answer w book masks n).number ≡ 0 → Taken w (length book) n
  unfolding event_rows
  call_taken e =
      let none = none_broken e in
      let day = in_book w n.day (not-false _ none.1.1.0) in
      record {
        there = part_there w (length book) n.day none.0 none.1.0 day;
        spans = in_band _ n refl ((hours_kept (figures_of Credit) n 0).0 none.1.1.1);
      }

-- whether a day is in the winter period, as the calendar's answer on its kind tells
pub period_told : (w : Winter) (d : ℕ) (r : Result Kind DateError) (b : Bool) → wrong_winter w ≡ false → kind_paper r ≡ day_kind w d
    → ((kind : Kind) → r ≡ Ok kind → b ≡ kind.period) → ((e : DateError) → r ≡ Err e → b ≡ false) → b ≡ in_period w d
period_told w d r b right e known past = by (no_day w d) refl (kind_is w d r right e)
  where
    by : (z : Bool) → no_day w d ≡ z → r ≡ cond z (Err NoDay) (Ok (kind_in w d)) → b ≡ in_period w d
    by true q is = rw (past_period w d q) (past NoDay is)
    by false q is = known (kind_in w d) is

-- an event of a list that stands is given its line
pub event_given : (y : ℕ) (book masks : List ℕ) (n : Notice) → length book ≡ book_length (days y) → Sound y (figures_of Credit) n
    → event_answer (winter_of y) book masks n ≡ told 0 (line_of book (asked_by (winter_of y) (free_in masks) n))
unfolding event_rows
event_given y book masks n b s =
    let w = winter_of y in
    let day : not (in_period w n.day) ≡ false = rw ((period_day y n.day).1 s.period) in
    let long : wrong_length w.days (length book) ≡ false = length_right w.days (length book) (omega (arith, facts_days y)) in
    let hours = (hours_kept (figures_of Credit) n 0).1 ((hours_iff (figures_of Credit) n).1 (s.some_hour, s.band)) in
    sym (call_settled w book masks n (facts_right y, (long, (day, hours))) refl)

-- the ways out of `settle_event`
pub ruleset call_laws = (told_winter, told_book, told_period, told_rule, told_line)
