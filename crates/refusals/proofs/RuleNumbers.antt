-- Every rule has a number from 1 to 41, so an answer is a refusal exactly when it refuses; rules are told apart by their numbers, and so no second
-- verdict has the same number and place, and nothing else that is judged by a rule alone the same number.
-- Assumes nothing.
use Prim.Native.Nat.{ℕ, ◌≤◌}
use mathlib.Core.Bool.{true, cond}
use mathlib.Core.Path.{◌≡◌, refl}
use native.Mathlib.Omega.{arith}
use lib.Dec.{eqb}
use lib.ListN.{get_or}
use Rattle.std.specs.Prelude.{Ok, Err, Result, ⊤}
use Rattle.laws.proofs.ReadBack.{read_back}
use Rattle.laws.specs.Answer.{Answer}
use Rattle.laws.specs.Table.{is_refusal}
use Rattle.refusals.specs.Refusals.{rule_number, at, verdict_paper, rule_paper}
use Rattle.refusals.specs.declared.refusal.Refusal.{Refusal}
use Rattle.refusals.specs.declared.rule.Rule.TheVariants as rules
use Rattle.refusals.specs.declared.rule.Rule.{Rule}

pub number_range : (rule : Rule) → (1 ≤ rule_number rule) × (rule_number rule ≤ 41)
number_range rules.NoWinter = (omega arith, omega arith)
number_range rules.BadBook = (omega arith, omega arith)
number_range rules.BadPrice = (omega arith, omega arith)
number_range rules.BadList = (omega arith, omega arith)
number_range rules.NoProfile = (omega arith, omega arith)
number_range rules.ShortOutput = (omega arith, omega arith)
number_range rules.HighEnergy = (omega arith, omega arith)
number_range rules.OutsidePeriod = (omega arith, omega arith)
number_range rules.ExcludedDay = (omega arith, omega arith)
number_range rules.Weekend = (omega arith, omega arith)
number_range rules.NoHours = (omega arith, omega arith)
number_range rules.BadLength = (omega arith, omega arith)
number_range rules.StartsBefore = (omega arith, omega arith)
number_range rules.SameBand = (omega arith, omega arith)
number_range rules.OverLimit = (omega arith, omega arith)
number_range rules.NoBand = (omega arith, omega arith)
number_range rules.AcrossBand = (omega arith, omega arith)
number_range rules.BrokenForm = (omega arith, omega arith)
number_range rules.MisplacedLine = (omega arith, omega arith)
number_range rules.LongText = (omega arith, omega arith)
number_range rules.WrongReferences = (omega arith, omega arith)
number_range rules.HighReference = (omega arith, omega arith)

pub refused_is : (rule : Rule) (place : ℕ) → is_refusal (verdict_paper {A = ⊤} (Err (at rule place))) ≡ true
refused_is rules.NoWinter place = refl
refused_is rules.BadBook place = refl
refused_is rules.BadPrice place = refl
refused_is rules.BadList place = refl
refused_is rules.NoProfile place = refl
refused_is rules.ShortOutput place = refl
refused_is rules.HighEnergy place = refl
refused_is rules.OutsidePeriod place = refl
refused_is rules.ExcludedDay place = refl
refused_is rules.Weekend place = refl
refused_is rules.NoHours place = refl
refused_is rules.BadLength place = refl
refused_is rules.StartsBefore place = refl
refused_is rules.SameBand place = refl
refused_is rules.OverLimit place = refl
refused_is rules.NoBand place = refl
refused_is rules.AcrossBand place = refl
refused_is rules.BrokenForm place = refl
refused_is rules.MisplacedLine place = refl
refused_is rules.LongText place = refl
refused_is rules.WrongReferences place = refl
refused_is rules.HighReference place = refl

-- the rule of a number; any other number counts as 41
pub rule_of : ℕ → Rule
rule_of n =
    cond (eqb n 1) rules.NoWinter
    (cond (eqb n 2) rules.BadBook
    (cond (eqb n 3) rules.BadPrice
    (cond (eqb n 4) rules.BadList
    (cond (eqb n 5) rules.NoProfile
    (cond (eqb n 6) rules.ShortOutput
    (cond (eqb n 7) rules.HighEnergy
    (cond (eqb n 10) rules.OutsidePeriod
    (cond (eqb n 11) rules.ExcludedDay
    (cond (eqb n 12) rules.Weekend
    (cond (eqb n 13) rules.NoHours
    (cond (eqb n 14) rules.BadLength
    (cond (eqb n 15) rules.StartsBefore
    (cond (eqb n 16) rules.SameBand
    (cond (eqb n 18) rules.OverLimit
    (cond (eqb n 26) rules.NoBand
    (cond (eqb n 27) rules.AcrossBand
    (cond (eqb n 30) rules.BrokenForm
    (cond (eqb n 31) rules.MisplacedLine
    (cond (eqb n 32) rules.LongText
    (cond (eqb n 40) rules.WrongReferences
    rules.HighReference))))))))))))))))))))

pub rule_back : (rule : Rule) → rule_of (rule_number rule) ≡ rule
unfolding rule_of
rule_back rules.NoWinter = refl
rule_back rules.BadBook = refl
rule_back rules.BadPrice = refl
rule_back rules.BadList = refl
rule_back rules.NoProfile = refl
rule_back rules.ShortOutput = refl
rule_back rules.HighEnergy = refl
rule_back rules.OutsidePeriod = refl
rule_back rules.ExcludedDay = refl
rule_back rules.Weekend = refl
rule_back rules.NoHours = refl
rule_back rules.BadLength = refl
rule_back rules.StartsBefore = refl
rule_back rules.SameBand = refl
rule_back rules.OverLimit = refl
rule_back rules.NoBand = refl
rule_back rules.AcrossBand = refl
rule_back rules.BrokenForm = refl
rule_back rules.MisplacedLine = refl
rule_back rules.LongText = refl
rule_back rules.WrongReferences = refl
rule_back rules.HighReference = refl

pub rule_one : (r s : Rule) → rule_number r ≡ rule_number s → r ≡ s
rule_one r s e = read_back rule_number rule_of rule_back r s (rule_number s) e refl

verdict_back : Answer → Result ⊤ Refusal
verdict_back a = cond (is_refusal a) (Err (at (rule_of a.number) (get_or a.values 0 0))) (Ok tt)

verdict_back_lem : (v : Result ⊤ Refusal) → verdict_back (verdict_paper v) ≡ v
unfolding verdict_back
verdict_back_lem (Ok a) = refl
verdict_back_lem (Err refusal) = rw (refused_is refusal.rule refusal.place, rule_back refusal.rule) refl

pub verdict_one : (r s : Result ⊤ Refusal) (a : Answer) → verdict_paper r ≡ a → verdict_paper s ≡ a → r ≡ s
verdict_one = read_back verdict_paper verdict_back verdict_back_lem

ruled_back : Answer → Result ⊤ Rule
ruled_back a = cond (is_refusal a) (Err (rule_of a.number)) (Ok tt)

ruled_back_lem : (place : ℕ) (v : Result ⊤ Rule) → ruled_back (rule_paper v place) ≡ v
unfolding ruled_back
ruled_back_lem place (Ok a) = refl
ruled_back_lem place (Err rule) = rw (refused_is rule place, rule_back rule) refl

-- what is judged by a rule alone, told with any place
pub ruled_one : (r s : Result ⊤ Rule) (place : ℕ) (a : Answer) → rule_paper r place ≡ a → rule_paper s place ≡ a → r ≡ s
ruled_one r s place = read_back (λ (v : Result ⊤ Rule). rule_paper v place) ruled_back (ruled_back_lem place) r s
