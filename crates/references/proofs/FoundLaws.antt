-- What the call found: on a book day as many days as it counts are at the front of its five, and they are the reference days; on
-- any other it counts none.
-- Assumes nothing.
use Prim.Native.Nat.{ℕ, ◌-◌}
use mathlib.Core.Bool.{Bool}
use mathlib.Core.List.{List, []}
use mathlib.Core.Path.{◌≡◌, refl, sym, ◌∙◌}
use native.Mathlib.Omega.{arith}
use lib.ListN.{length, take, replicate, length-append, length-replicate}
use lib.Seq.{take_at}
use Rattle.calendar.proofs.Answered.{kind_read}
use Rattle.calendar.proofs.Promise.{day_there}
use Rattle.calendar.specs.Answers.{kind_paper, day_kind}
use Rattle.calendar.specs.Days.{wrong_winter, no_day}
use Rattle.calendar.specs.declared.answers.Kind.{Kind}
use Rattle.calendar.specs.declared.answers.Winter.{Winter}
use Rattle.dates.specs.declared.answers.DateError.{DateError}
use Rattle.laws.proofs.Guards.{no_fault}
use Rattle.std.specs.Prelude.{Result, Err}
use Rattle.references.specs.ReferenceDays.{reference_days, refs_of, refs_in}
use Rattle.references.specs.Search.{BookDay}
use Rattle.references.specs.declared.search.Refs.{Refs}
use Rattle.references.proofs.Nearest.{refs_few}

-- the days are the first `count` of the array
pub record Finds (ds : List ℕ) (r : Refs) : Type 0 where
  pub counted : r.count ≡ length ds
  pub first : take r.count r.days ≡ ds
  pub long : length r.days ≡ 5

module _ (w : Winter) (free : ℕ → Bool) (day s : ℕ) where
  abbrev refs : List ℕ
  refs = reference_days w free day s

  -- of a book day the call gives the reference days
  pub refs_given : BookDay w day → refs_of refs ≡ refs_in w free day s
  unfolding refs_in
  refs_given book_day = rw (no_fault (wrong_winter w) (no_day w day) book_day.right (day_there w day book_day.there))

  pub refs_are : {r : Refs} → BookDay w day → r ≡ refs_in w free day s → r ≡ refs_of refs
  refs_are book_day is = is ∙ sym (refs_given book_day)

  -- of a wrong winter, and of a day outside the book, it gives none
  pub refs_none : (r : Result Kind DateError) (e : DateError) → r ≡ Err e → kind_paper r ≡ day_kind w day → refs_of [] ≡ refs_in w free day s
  unfolding refs_in
  refs_none r e q p = let is = kind_read w day r p in grind arith

  finds : Finds refs (refs_of refs)
  finds =
      record {
        counted = refl;
        first = take_at refs (replicate (5 - length refs) 0) (length refs) refl;
        long = simp (length-append, length-replicate) (omega (arith, refs_few w free day s));
      }

  pub refs_found : {r : Refs} → BookDay w day → r ≡ refs_in w free day s → Finds refs r
  refs_found book_day is = rw (refs_are book_day is) finds
