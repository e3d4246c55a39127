-- The medium-power settlement of a winter: what it answers, and what it leaves in the lent output.
-- Assumes nothing.
use Rattle.std.specs.Prelude.{ℕ, cond, List, length, get_or, Ok, Err, Result}
use Rattle.laws.specs.Answer.{Answer}
use Rattle.laws.specs.Sums.{sum_to}
use Rattle.laws.specs.Table.{is_refusal}
use Rattle.notices.specs.Notices.{count_of}
use Rattle.power.specs.Credit.{credit_of}
use Rattle.power.specs.Lines.{reduction_at, settled_at, power_lines_in}
use Rattle.power.specs.Reduced.{Reduced, reduced_at}
use Rattle.power.specs.Refusals.{power_refusal}
use Rattle.power.specs.declared.call.PowerTotals.{PowerTotals}
use Rattle.refusals.specs.Refusals.{rule_number}
use Rattle.refusals.specs.declared.refusal.Refusal.{Refusal}

-- what a settlement answers on paper: the refusal number and place, 0 if it is accepted, and the totals, 0 if it is refused
pub record PowerSettlement : Type 0 where
  pub number : ℕ
  pub place : ℕ
  pub sum : ℕ
  pub settled : ℕ
  pub cents : ℕ

-- rule 4.2: no totals beside a refusal
abbrev pub power_refused_with : ℕ → ℕ → PowerSettlement
power_refused_with number place = record { number = number; place = place; sum = 0; settled = 0; cents = 0 }

-- what the call gives, as this answer
abbrev pub power_paper : Result PowerTotals Refusal → PowerSettlement
power_paper (Ok totals) = record { number = 0; place = 0; sum = totals.sum; settled = totals.settled; cents = totals.cents }
power_paper (Err refusal) = power_refused_with (rule_number refusal.rule) refusal.place

-- rules 11.7 and 11.10: the totals, with number and place of an accepted call
abbrev pub power_totals_of : (ℕ → Reduced) → ℕ → PowerSettlement
power_totals_of events n = record {
  number = 0;
  place = 0;
  sum = sum_to (reduction_at events) n;
  settled = sum_to (settled_at events) n;
  cents = credit_of (sum_to (reduction_at events) n) (sum_to (settled_at events) n);
}

-- these totals alone
abbrev pub totals_in : (ℕ → Reduced) → ℕ → PowerTotals
totals_in events n = record {
  sum = sum_to (reduction_at events) n;
  settled = sum_to (settled_at events) n;
  cents = credit_of (sum_to (reduction_at events) n) (sum_to (settled_at events) n);
}

-- rule 4.2: the refusal and nothing written, or the settlement
unfoldable pub power_settled_by : Answer → (ℕ → Reduced) → ℕ → PowerSettlement
power_settled_by refusal events n = cond (is_refusal refusal) (power_refused_with refusal.number (get_or refusal.values 0 0)) (power_totals_of events n)

unfoldable pub power_written_by : Answer → (ℕ → Reduced) → ℕ → List ℕ → List ℕ
power_written_by refusal events n out = cond (is_refusal refusal) out (power_lines_in events n out)

-- winter, book, list, references, and how many numbers the output and the totals have (rule 11.10)
unfoldable pub power_settlement : ℕ → List ℕ → List ℕ → List ℕ → ℕ → ℕ → PowerSettlement
power_settlement w book l references room totals =
    power_settled_by (power_refusal w (length book) l references room totals) (reduced_at book l references) (count_of l)

-- winter, book, list, references, output, and how many numbers the totals have
unfoldable pub power_written : ℕ → List ℕ → List ℕ → List ℕ → List ℕ → ℕ → List ℕ
power_written w book l references out totals =
    power_written_by (power_refusal w (length book) l references (length out) totals) (reduced_at book l references) (count_of l) out
