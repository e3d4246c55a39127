-- Laws of a winter's facts, one for each way out of the functions that work them out or ask by them.
-- Assumes nothing.
use Prim.Native.Nat.{ℕ, ◌+◌, ◌≤◌, ◌<◌}
use mathlib.Core.Bool.{Bool, false}
use mathlib.Core.List.{[], ◌∷◌}
use mathlib.Core.Path.{◌≡◌, ap, ◌∙◌}
use native.Mathlib.Omega.{arith}
use lib.Dec.{leb}
use lib.ListN.{get_or}
use Rattle.laws.proofs.Refusals.{refused, kept}
use Rattle.laws.specs.Answer.{Answer, given, refusal, bit}
use Rattle.dates.proofs.Promise.{days_range, december_first, march_first_lem}
use Rattle.dates.specs.Winters.{no_winter, days}
use Rattle.calendar.specs.Answers.{facts_paper, winter_facts, day_kind, weekday_of}
use Rattle.calendar.specs.Days.{wrong_winter}
use Rattle.calendar.specs.Easter.{after_march_first, easter_in_book}
use Rattle.calendar.specs.Excluded.{excluded}
use Rattle.calendar.specs.Weekdays.{first_weekday, weekday, weekend}
use Rattle.calendar.specs.WinterOf.{winter_of, first_of}
use Rattle.calendar.specs.declared.answers.Winter.{Winter}
use Rattle.calendar.proofs.Bounds.{after_range}
use Rattle.calendar.proofs.Answered.{no_winter_known}
use Rattle.calendar.proofs.Promise.{days_few, day_past, day_there, period_start}

first_value : Answer → ℕ
first_value a = get_or a.values 0 0

-- the facts of a winter, from N, the first days of December and March, the first weekday, and Easter's days after 1 March
pub facts_given : (y n december first march after : ℕ) → no_winter y ≡ false → n ≡ days y → december ≡ first_of y 12 → first ≡ first_weekday y
    → march ≡ first_of y 3
    → after ≡ after_march_first (y + 1)
    → facts_paper (record { days = n; december = december; first = first; easter = march + after }) ≡ winter_facts y
unfolding winter_facts winter_of easter_in_book first_value
facts_given y n december first march after w n-is december-is first-is march-is after_is =
    let d : december ≡ 30 = december-is ∙ ap first_value (december_first y w) in
    let m = march-is ∙ ap first_value (march_first_lem y w) in
    kept (refusal 1) w (rw (n-is, d, first-is, m, after_is))

-- in which no sum wraps
pub easter_fits : (y march after : ℕ) → no_winter y ≡ false → march ≡ first_of y 3 → after ≡ after_march_first (y + 1) → march + after ≤ 177
unfolding first_value
easter_fits y march after w march-is after_is =
    omega (arith, march-is ∙ ap first_value (march_first_lem y w), after_is, days_range y, after_range (y + 1))

-- the weekday of a day past the book, and of a book day
module _ (y d : ℕ) (w : Winter) (is : no_winter y ≡ false) (e : w ≡ winter_of y) where
  pub no_weekday : w.days ≤ d → refusal 10 ≡ weekday_of y d
  unfolding weekday_of
  no_weekday h = kept (refusal 1) is (refused _ _ (rw (← e) (day_past w d h)))

  pub weekday_given : (v : ℕ) → d < w.days → v ≡ weekday w d → given (v ∷ []) ≡ weekday_of y d
  unfolding weekday_of
  weekday_given v h q = kept (refusal 1) is (kept (refusal 10) (rw (← e) (day_there w d h)) (rw (q, e)))

-- the kind of a day past the book, and of a book day
module _ (w : Winter) (d : ℕ) (right : wrong_winter w ≡ false) where
  pub no_kind : w.days ≤ d → refusal 10 ≡ day_kind w d
  unfolding day_kind
  no_kind h = kept (refusal 1) right (refused _ _ (day_past w d h))

  pub kind_given : (p k e : Bool) → d < w.days → p ≡ leb w.december d → k ≡ weekend w d → e ≡ excluded w d
      → given (bit p ∷ bit k ∷ bit e ∷ []) ≡ day_kind w d
  unfolding day_kind
  kind_given p k e h p-is k-is e-is =
      let there = day_there w d h in
      kept (refusal 1) right (kept (refusal 10) there (rw (p-is, k-is, e-is, period_start w d there)))

-- what the calls go by where no answer is written
pub ruleset weekday_laws = (no_winter_known, refused)

pub ruleset kind_laws = (no_kind, days_few, day_there, refused)
