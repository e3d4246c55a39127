-- What the calendar's answer on a day tells: the kind of a book day, or that the day is past the book and so in no winter period. Of a book
-- day a kind is always told.
-- Assumes nothing.
use Prim.Native.Nat.{ℕ}
use mathlib.Core.Bool.{true, false, not}
use mathlib.Core.Logic.{◌⊎◌, inl}
use mathlib.Core.Path.{◌≡◌, refl}
use native.Mathlib.Omega.{arith}
use Rattle.calendar.proofs.Answered.{kind_in, kind_is, day_known, no_day_known, right_known}
use Rattle.calendar.proofs.Promise.{book_day, day_there, past_period}
use Rattle.calendar.specs.Answers.{kind_paper, day_kind}
use Rattle.calendar.specs.Days.{wrong_winter, no_day, in_period}
use Rattle.dates.specs.declared.answers.DateError.TheVariants.{NoDay, NoWinter}
use Rattle.dates.specs.declared.answers.DateError.{DateError}
use Rattle.std.specs.Prelude.{Result, Ok, Err}
use Rattle.calendar.specs.declared.answers.Kind.{Kind}
use Rattle.calendar.specs.declared.answers.Winter.{Winter}
use Rattle.references.specs.Search.{BookDay, OnDay}

-- a day past a winter's book
pub record PastBook (w : Winter) (d : ℕ) : Type 0 where
  pub right : wrong_winter w ≡ false
  pub past : no_day w d ≡ true
  pub no_period : not (in_period w d) ≡ true

module _ (w : Winter) (d : ℕ) (r : Result Kind DateError) where
  pub told_day : (k : Kind) → r ≡ Ok k → kind_paper r ≡ day_kind w d → OnDay w d k
  told_day k q e =
      let right = right_known w d r (λ (z : r ≡ Err NoWinter). cc) e in
      let known = day_known w d r k q right e in
      rw known.1 (record { day = record { right = right; there = book_day w d known.0 }; period = refl; week = refl })

  pub told_past : r ≡ Err NoDay → kind_paper r ≡ day_kind w d → PastBook w d
  told_past q e =
      let right = right_known w d r (λ (z : r ≡ Err NoWinter). cc) e in
      let past = no_day_known w d r (inl q) right e in
      record { right = right; past = past; no_period = rw (past_period w d past) }

  pub never_past : (r ≡ Err NoDay) ⊎ (r ≡ Err NoWinter) → BookDay w d → kind_paper r ≡ day_kind w d → ⊥
  never_past q day e =
      let past : no_day w d ≡ true = no_day_known w d r q day.right e in
      let there : no_day w d ≡ false = day_there w d day.there in
      let z : ◌≡◌ {A = ℕ} 0 1 = cc in
      omega arith

  pub kind_there : BookDay w d → kind_paper r ≡ day_kind w d → r ≡ Ok (kind_in w d)
  kind_there day e = rw (day_there w d day.there) at (kind_is w d r day.right e)
