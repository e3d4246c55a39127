pub mod DateLaws
pub mod DatesInverse
pub mod OneOutcome
pub mod Promise
