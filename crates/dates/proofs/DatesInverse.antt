-- Date and book day are inverse. Each book day has a date that leads back to it, by one test computed over the days of a book with a leap
-- day and of one without; a date that has a book day is that day's date, for every number, by recursion over the months.
-- Assumes nothing.
use Prim.Native.Nat.{ℕ, suc, ◌+◌, ◌-◌, ◌≤◌, ◌<◌}
use mathlib.Core.Bool.{Bool, true, false, cond, ◌&&◌, ◌||◌}
use mathlib.Core.List.{List, [], ◌∷◌}
use mathlib.Core.Path.{◌≡◌, refl, sym, ap, ◌∙◌}
use native.Mathlib.Omega.{arith}
use lib.Dec.{T, ltb, leb, eqb}
use lib.ListN.{get_or}
use borrow.Author.Tests.{eqb-true, lt-ltb, le-ltb, lt-leb}
use Rattle.laws.proofs.Below.{below, and_left, and_right}
use Rattle.laws.proofs.Same.{same, same_true}
use Rattle.laws.proofs.Refusals.{kept, passed}
use Rattle.laws.specs.Answer.{Answer, given, refusal}
use Rattle.dates.specs.Answers.{date_of, book_day_of}
use Rattle.dates.specs.Dates.{month_lengths, november, month_after, date_from, day_in_month, book_day_from}
use Rattle.dates.specs.Winters.{no_winter, leap, days}
use Rattle.dates.proofs.DateLaws.{in_month}
use Rattle.dates.proofs.Promise.{days_range, date_walk}

-- the month and the day of the month of an answer that is a date
abbrev pub month_of : Answer → ℕ
month_of date = get_or date.values 0 0

abbrev pub day_of : Answer → ℕ
day_of date = get_or date.values 1 0

-- the walks over the months, from a book day to its date and back, in a winter with a leap day or without
module _ (long : Bool) where
  abbrev lengths_in : List ℕ
  lengths_in = 30 ∷ 31 ∷ 31 ∷ cond long 29 28 ∷ 31 ∷ []

  abbrev walk : ℕ → Answer
  walk d = date_from lengths_in november d

  abbrev walk_back : ℕ → ℕ → Answer
  walk_back month day = book_day_from lengths_in november 0 month day

  -- day d, if it is in the book, has a date
  dated : ℕ → Bool
  dated d = leb (cond long 152 151) d || same (walk d) (given (month_of (walk d) ∷ day_of (walk d) ∷ []))

  -- and that date has the book day d
  leads_back : ℕ → Bool
  leads_back d = leb (cond long 152 151) d || same (walk_back (month_of (walk d)) (day_of (walk d))) (given (d ∷ []))

every_day : (long : Bool) (d : ℕ) → d < 152 → T (dated long d && leads_back long d)
unfolding dated leads_back date_from day_in_month book_day_from
every_day true = below (λ d. dated true d && leads_back true d) 152 tt
every_day false = below (λ d. dated false d && leads_back false d) 152 tt

module _ (y d : ℕ) (w : no_winter y ≡ false) (h : d < days y) where
  in_book : {a b : Answer} → T (leb (days y) d || same a b) → a ≡ b
  in_book {a} {b} t = same_true a b (rw (lt-leb (days y) d h) at t)

  long : Bool
  long = leap (y + 1)

  both_hold : T (dated long d && leads_back long d)
  both_hold = every_day long d (omega (arith, days_range y))

  pub date_given : date_of y d ≡ given (month_of (date_of y d) ∷ day_of (date_of y d) ∷ [])
  unfolding dated days month_lengths long
  date_given = rw (date_walk y w d) (in_book (and_left (dated long d) (leads_back long d) both_hold))

  pub date_leads_back : book_day_of y (month_of (date_of y d)) (day_of (date_of y d)) ≡ given (d ∷ [])
  unfolding book_day_of leads_back days month_lengths long
  date_leads_back = rw (date_walk y w d) (sym (kept (refusal 1) w (sym (in_book (and_right (dated long d) (leads_back long d) both_hold)))))

-- the same walk, from a month on that starts at book day `first`
FoundAt : List ℕ → ℕ → ℕ → ℕ → ℕ → ℕ → Type 0
FoundAt lengths now first month day d = (first ≤ d) × (date_from lengths now (d - first) ≡ given (month ∷ day ∷ []))

-- a refusal gives nothing
no_refusal : {X : Type 0} (n : ℕ) (vs : List ℕ) → refusal (suc n) ≡ given vs → X
no_refusal n vs e = let z : suc n ≡ 0 = ap (λ (a : Answer). a.number) e in absurd (omega arith)

first_value : (x d : ℕ) → given (x ∷ []) ≡ given (d ∷ []) → x ≡ d
first_value x d e = ap (λ (a : Answer). get_or a.values 0 0) e

module _ (n : ℕ) (lengths : List ℕ) (now first month day d : ℕ) where
  in_this : now ≡ month → (b : Bool) → (ltb day 1 || ltb n day) ≡ b
      → cond b (refusal 10) (given ((first + day - 1) ∷ [])) ≡ given (d ∷ []) → FoundAt (n ∷ lengths) now first month day d
  unfolding FoundAt date_from
  in_this m true q e = no_refusal 9 (d ∷ []) e
  in_this m false q e =
      let i = in_month day n q in
      let v = first_value (first + day - 1) d e in
      let left : d - first + 1 ≡ day = omega arith in
      (omega arith, rw (lt-ltb (d - first) n (omega arith), m, left))

  in_later : FoundAt lengths (month_after now) (first + n) month day d → FoundAt (n ∷ lengths) now first month day d
  unfolding FoundAt date_from
  in_later p =
      let before = p.0 in
      let left : d - first - n ≡ d - (first + n) = omega arith in
      (omega arith, rw (le-ltb (d - first) n (omega arith), left) p.1)

  -- the rest of the walk: the months after this one, and the walk from this one on
  rest : Answer
  rest = book_day_from lengths (month_after now) (first + n) month day

  in_one : (rest ≡ given (d ∷ []) → FoundAt lengths (month_after now) (first + n) month day d)
      → (b : Bool) → eqb now month ≡ b → cond b (day_in_month first n day) rest ≡ given (d ∷ []) → FoundAt (n ∷ lengths) now first month day d
  unfolding day_in_month
  in_one later true q e = in_this (eqb-true now month q) (ltb day 1 || ltb n day) refl e
  in_one later false q e = in_later (later e)

found_at : (lengths : List ℕ) (now first month day d : ℕ) → book_day_from lengths now first month day ≡ given (d ∷ []) → FoundAt lengths now first month day d
unfolding book_day_from rest
found_at [] now first month day d e = no_refusal 9 (d ∷ []) e
found_at (n ∷ lengths) now first month day d e =
    in_one n lengths now first month day d (found_at lengths (month_after now) (first + n) month day d) (eqb now month) refl e

pub day_leads_back : (y month day d : ℕ) → book_day_of y month day ≡ given (d ∷ []) → date_of y d ≡ given (month ∷ day ∷ [])
unfolding book_day_of FoundAt
day_leads_back y month day d e =
    let p = passed 0 (no_winter y) (book_day_from (month_lengths y) november 0 month day) (d ∷ []) e in
    let z : d - 0 ≡ d = omega arith in
    date_walk y p.0 d ∙ (rw z at (found_at (month_lengths y) november 0 month day d p.1).1)
