-- Number and place of a refusal: rules 4.1 and 4.25.
-- Assumes nothing.
use Rattle.std.specs.Prelude.{ℕ, [], ◌∷◌, Ok, Err, Result}
use Rattle.laws.specs.Answer.{Answer}
use Rattle.laws.specs.Table.{accepted, refusal_at}
use Rattle.refusals.specs.declared.refusal.Refusal.{Refusal}
use Rattle.refusals.specs.declared.rule.Rule.TheVariants as rules
use Rattle.refusals.specs.declared.rule.Rule.{Rule}

abbrev pub rule_number : Rule → ℕ
rule_number rules.NoWinter = 1
rule_number rules.BadBook = 2
rule_number rules.BadPrice = 3
rule_number rules.BadList = 4
rule_number rules.NoProfile = 5
rule_number rules.ShortOutput = 6
rule_number rules.HighEnergy = 7
rule_number rules.OutsidePeriod = 10
rule_number rules.ExcludedDay = 11
rule_number rules.Weekend = 12
rule_number rules.NoHours = 13
rule_number rules.BadLength = 14
rule_number rules.StartsBefore = 15
rule_number rules.SameBand = 16
rule_number rules.OverLimit = 18
rule_number rules.NoBand = 26
rule_number rules.AcrossBand = 27
rule_number rules.BrokenForm = 30
rule_number rules.MisplacedLine = 31
rule_number rules.LongText = 32
rule_number rules.WrongReferences = 40
rule_number rules.HighReference = 41

-- a rule that is broken in a place
abbrev pub at : Rule → ℕ → Refusal
at rule place = record { rule = rule; place = place }

-- number and place of what is accepted or refused, both 0 if it is accepted
abbrev pub number_of : {A : Type 0} → Result A Refusal → ℕ
number_of (Ok a) = 0
number_of (Err refusal) = rule_number refusal.rule

abbrev pub place_of : {A : Type 0} → Result A Refusal → ℕ
place_of (Ok a) = 0
place_of (Err refusal) = refusal.place

abbrev pub verdict_paper : {A : Type 0} → Result A Refusal → Answer
verdict_paper v = record { number = number_of v; values = place_of v ∷ [] }

-- the same of what is refused by a rule alone, in a place that the caller knows
abbrev pub rule_paper : {A : Type 0} → Result A Rule → ℕ → Answer
rule_paper (Ok a) place = accepted
rule_paper (Err rule) place = refusal_at (rule_number rule) place
