-- No second outcome fits: two answers with the same number and values on paper are the same answer.
-- Each is read back from its number and values.
-- Assumes nothing.
use Prim.Native.Nat.{ℕ, zero, suc}
use mathlib.Core.List.{List, [], ◌∷◌}
use mathlib.Core.Path.{◌≡◌, refl}
use Rattle.std.specs.Prelude.{Option, Some, None, Result, Ok, Err}
use Rattle.laws.proofs.ReadBack.{read_back}
use Rattle.laws.specs.Answer.{Answer}
use Rattle.dates.specs.Answers.{days_paper, number_paper, date_paper}
use Rattle.dates.specs.declared.answers.Date.{Date}
use Rattle.dates.specs.declared.answers.DateError.TheVariants.{NoWinter, NoDay}
use Rattle.dates.specs.declared.answers.DateError.{DateError}

days_back : List ℕ → Option ℕ
days_back [] = None
days_back (n ∷ vs) = Some n

pub days_one : (r s : Option ℕ) (a : Answer) → days_paper r ≡ a → days_paper s ≡ a → r ≡ s
unfolding days_back
days_one = read_back days_paper (λ a. days_back a.values) inv
  where
    inv : (r : Option ℕ) → days_back (days_paper r).values ≡ r
    inv (Some n) = refl
    inv None = refl

number_back : ℕ → List ℕ → Result ℕ DateError
number_back zero [] = Err NoDay
number_back zero (n ∷ vs) = Ok n
number_back (suc zero) vs = Err NoWinter
number_back (suc (suc k)) vs = Err NoDay

pub number_one : (r s : Result ℕ DateError) (a : Answer) → number_paper r ≡ a → number_paper s ≡ a → r ≡ s
unfolding number_back
number_one = read_back number_paper (λ a. number_back a.number a.values) inv
  where
    inv : (r : Result ℕ DateError) → number_back (number_paper r).number (number_paper r).values ≡ r
    inv (Ok n) = refl
    inv (Err NoWinter) = refl
    inv (Err NoDay) = refl

date_back : ℕ → List ℕ → Result Date DateError
date_back zero [] = Err NoDay
date_back zero (month ∷ []) = Err NoDay
date_back zero (month ∷ (day ∷ vs)) = Ok (record { month = month; day = day })
date_back (suc zero) vs = Err NoWinter
date_back (suc (suc k)) vs = Err NoDay

pub date_one : (r s : Result Date DateError) (a : Answer) → date_paper r ≡ a → date_paper s ≡ a → r ≡ s
unfolding date_back
date_one = read_back date_paper (λ a. date_back a.number a.values) inv
  where
    inv : (r : Result Date DateError) → date_back (date_paper r).number (date_paper r).values ≡ r
    inv (Ok date) = refl
    inv (Err NoWinter) = refl
    inv (Err NoDay) = refl
