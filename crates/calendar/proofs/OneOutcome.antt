-- No second outcome fits: two answers with the same number and values on paper are the same answer, each being read back from these.
-- Assumes nothing.
use Prim.Native.Nat.{ℕ, zero, suc}
use mathlib.Core.Bool.{Bool, true, false}
use mathlib.Core.List.{List, [], ◌∷◌}
use mathlib.Core.Path.{◌≡◌, refl}
use Rattle.laws.proofs.ReadBack.{read_back}
use Rattle.laws.specs.Answer.{Answer, bit}
use Rattle.calendar.specs.Answers.{known_paper, sunday_paper, kind_paper, change_paper}
use Rattle.calendar.specs.declared.answers.Kind.{Kind}
use Rattle.calendar.specs.declared.answers.Winter.{Winter}
use Rattle.dates.specs.declared.answers.Date.{Date}
use Rattle.dates.specs.declared.answers.DateError.TheVariants.{NoWinter, NoDay}
use Rattle.dates.specs.declared.answers.DateError.{DateError}
use Rattle.std.specs.Prelude.{Option, Some, None, Result, Ok, Err}

sunday_back : List ℕ → Option Date
sunday_back [] = None
sunday_back (month ∷ []) = None
sunday_back (month ∷ (day ∷ vs)) = Some (record { month = month; day = day })

pub sunday_one : (r s : Option Date) (a : Answer) → sunday_paper r ≡ a → sunday_paper s ≡ a → r ≡ s
unfolding sunday_back
sunday_one = read_back sunday_paper (λ a. sunday_back a.values) inv
  where
    inv : (r : Option Date) → sunday_back (sunday_paper r).values ≡ r
    inv (Some date) = refl
    inv None = refl

change_back : List ℕ → Option ℕ
change_back [] = None
change_back (day ∷ vs) = Some day

pub change_one : (r s : Option ℕ) (a : Answer) → change_paper r ≡ a → change_paper s ≡ a → r ≡ s
unfolding change_back
change_one = read_back change_paper (λ a. change_back a.values) inv
  where
    inv : (r : Option ℕ) → change_back (change_paper r).values ≡ r
    inv (Some day) = refl
    inv None = refl

known_back : List ℕ → Option Winter
known_back [] = None
known_back (n ∷ []) = None
known_back (n ∷ (d ∷ [])) = None
known_back (n ∷ (d ∷ (f ∷ []))) = None
known_back (n ∷ (d ∷ (f ∷ (e ∷ vs)))) = Some (record { days = n; december = d; first = f; easter = e })

pub known_one : (r s : Option Winter) (a : Answer) → known_paper r ≡ a → known_paper s ≡ a → r ≡ s
unfolding known_back
known_one = read_back known_paper (λ a. known_back a.values) inv
  where
    inv : (r : Option Winter) → known_back (known_paper r).values ≡ r
    inv (Some w) = refl
    inv None = refl

is_one : ℕ → Bool
is_one zero = false
is_one (suc n) = true

one_bit : (b : Bool) → is_one (bit b) ≡ b
unfolding is_one
one_bit true = refl
one_bit false = refl

kind_back : ℕ → List ℕ → Result Kind DateError
kind_back zero [] = Err NoDay
kind_back zero (p ∷ []) = Err NoDay
kind_back zero (p ∷ (w ∷ [])) = Err NoDay
kind_back zero (p ∷ (w ∷ (e ∷ vs))) = Ok (record { period = is_one p; weekend = is_one w; excluded = is_one e })
kind_back (suc zero) vs = Err NoWinter
kind_back (suc (suc n)) vs = Err NoDay

pub kind_one : (r s : Result Kind DateError) (a : Answer) → kind_paper r ≡ a → kind_paper s ≡ a → r ≡ s
unfolding kind_back
kind_one = read_back kind_paper (λ a. kind_back a.number a.values) inv
  where
    inv : (r : Result Kind DateError) → kind_back (kind_paper r).number (kind_paper r).values ≡ r
    inv (Ok k) = rw (one_bit k.period, one_bit k.weekend, one_bit k.excluded)
    inv (Err NoWinter) = refl
    inv (Err NoDay) = refl
