-- Demand 2 of the medium-power settlement (rule 10.11), of the lines of an accepted list with its references, and of the totals: each line says what
-- its event spared, or which needed reading is the first that is no reading; the credit is the number of cents nearest to the exact fraction.
-- Assumes nothing.
use Rattle.std.specs.Prelude.{ℕ, ◌-◌, ◌*◌, ◌≤◌, ◌<◌, List, ◌↔◌, ◌≡◌, eqb}
use Rattle.book.proofs.FirstFault.{Holds}
use Rattle.book.specs.Readings.{reading_at, sum_over}
use Rattle.laws.proofs.Every.{Every}
use Rattle.laws.specs.Answer.{bit}
use Rattle.laws.specs.Sums.{run_of}
use Rattle.money.specs.Nearest.{Nearest}
use Rattle.notices.specs.Notices.{count_of, notice_at, hours_of}
use Rattle.notices.specs.declared.notices.Notice.{Notice}
use Rattle.power.specs.Credit.{credit_parts, exact_credit, largest_credit}
use Rattle.power.specs.Reduced.{needed_of, reference_at}
use Rattle.demands.specs.Demand2.{Unsettled}
use Rattle.demands.specs.PowerSheet.{PowerSheet}

-- a line, by its reference and its notice: settled exactly where every event hour has a reading, and then by rule 11.3, 0 where that is negative;
-- else rule 11.5. Settled or not, its reduction is its energy over its hours in twelfths, with nothing cut off (rule 11.4)
pub record PowerLine (book : List ℕ) (reference : ℕ) (n : Notice) (code place energy reduction : ℕ) : Type 0 where
  pub settled_iff : (code ≡ 0) ↔ Every (Holds book) (needed_of n)
  pub settled : code ≡ 0 → (place ≡ 0) × (energy ≡ reference * hours_of n - sum_over (reading_at book) (needed_of n))
  pub unsettled : (code ≡ 0 → ⊥) → Unsettled book (needed_of n) code place energy
  pub whole : hours_of n * reduction ≡ 12 * energy

-- rule 11.9: nothing where no event is settled, else the nearest to the exact fraction, halves up, and never too large (rule 11.11)
pub record PowerCredit (sum settled cents : ℕ) : Type 0 where
  pub none_settled : settled ≡ 0 → cents ≡ 0
  pub nearest : (settled ≡ 0 → ⊥) → Nearest (exact_credit sum settled) (credit_parts settled) cents
  pub most : cents ≤ largest_credit

-- all lines of a sheet, one for each notice in their order, the sum of their reductions, how many of them are settled, and the credit
pub record PowerDemand (book list references : List ℕ) (s : PowerSheet) : Type 0 where
  pub as_many : s.lines ≡ count_of list
  pub each : (k : ℕ) → k < count_of list
      → PowerLine book (reference_at references k) (notice_at list k) (s.code k) (s.place k) (s.energy k) (s.reduction k)
  pub reductions : s.sum ≡ run_of s.reduction 0 s.lines
  pub count : s.settled ≡ run_of (λ (k : ℕ). bit (eqb (s.code k) 0)) 0 s.lines
  pub credit : PowerCredit s.sum s.settled s.cents
