pub mod RuleNumbers
