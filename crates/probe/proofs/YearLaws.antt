-- What is asked of a winter's facts is asked of its year: one law for each answer of `winter_of`.
-- Assumes nothing.
use Prim.Native.Nat.{ℕ}
use mathlib.Core.List.{List, []}
use mathlib.Core.Path.{◌≡◌, ap, ◌∙◌}
use Rattle.calendar.proofs.Answered.{no_winter_known, winter_known}
use Rattle.calendar.specs.Answers.{known_paper, winter_facts}
use Rattle.book.specs.Part.{day_readings}
use Rattle.calendar.specs.declared.answers.Winter.{Winter}
use Rattle.energy.specs.Line.{EventAnswer, line_paper}
use Rattle.refusals.specs.declared.rule.Rule.TheVariants.{NoWinter}
use Rattle.std.specs.Prelude.{Option, Some, None, Err}
use Rattle.laws.proofs.Refusals.{refused, kept}
use Rattle.laws.specs.Answer.{Answer, refusal}
use Rattle.probe.specs.Told.{of_year, event_of_year, part_of}

module _ (y : ℕ) (r : Option Winter) (k : known_paper r ≡ winter_facts y) where
  pub no_year : (f : Winter → Answer) → r ≡ None → refusal 1 ≡ of_year y f
  unfolding of_year
  no_year f q = refused (refusal 1) _ (no_winter_known y r q k)

  pub of_year_lem : (f : Winter → Answer) (w : Winter) {a : Answer} → r ≡ Some w → a ≡ f w → a ≡ of_year y f
  unfolding of_year
  of_year_lem f w q e = let is = winter_known y r w q k in kept (refusal 1) is.0 (e ∙ ap f is.1)

  pub no_event : (f : Winter → EventAnswer) → r ≡ None → line_paper (Err NoWinter) ≡ event_of_year y f
  unfolding event_of_year
  no_event f q = rw (no_winter_known y r q k)

  pub event_of_lem : (f : Winter → EventAnswer) (w : Winter) {a : EventAnswer} → r ≡ Some w → a ≡ f w → a ≡ event_of_year y f
  unfolding event_of_year
  event_of_lem f w q e = let is = winter_known y r w q k in rw is.0 (e ∙ ap f is.1)

  pub no_part_of : (book : List ℕ) (d : ℕ) → r ≡ None → [] ≡ part_of y book d
  unfolding part_of
  no_part_of book d q = rw (no_winter_known y r q k)

  pub part_of_lem : (book : List ℕ) (d : ℕ) (w : Winter) → r ≡ Some w → day_readings w book d ≡ part_of y book d
  unfolding part_of
  part_of_lem book d w q = let is = winter_known y r w q k in rw (is.0, is.1)
