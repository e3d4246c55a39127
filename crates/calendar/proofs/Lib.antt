pub mod Bounds
pub mod Promise
pub mod ClockLaws
pub mod FactLaws
pub mod Answered
pub mod OneOutcome
