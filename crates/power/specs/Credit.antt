-- The credit of a medium-power site.
-- Assumes nothing.
use Rattle.std.specs.Prelude.{ℕ, ◌*◌, cond, eqb}
use Rattle.money.specs.Nearest.{nearest_whole}
use Rattle.power.specs.Rates.{rate_of}

-- rule 11.9: the credit is exact in parts of a cent, so many of which make one
abbrev pub credit_parts : ℕ → ℕ
credit_parts count = 120000 * count

abbrev pub exact_credit : ℕ → ℕ → ℕ
exact_credit sum count = sum * rate_of sum count

-- in whole cents, rounded once; 0 where no event is settled (rules 11.7 and 11.9)
unfoldable pub credit_of : ℕ → ℕ → ℕ
credit_of sum count = cond (eqb count 0) 0 (nearest_whole (exact_credit sum count) (credit_parts count))

-- rule 11.11: the largest credit of a winter
abbrev pub largest_credit : ℕ
largest_credit = 46170000
