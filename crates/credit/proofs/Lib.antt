pub mod CallGuards
pub mod Demands
pub mod Exact
pub mod LineLaws
pub mod OneOutcome
pub mod RefusalLaws
pub mod SettlementLaws
pub mod WayLaws
