pub mod Reduced
pub mod Lines
pub mod Rates
pub mod Credit
pub mod Refusals
pub mod Settlement
pub mod Ready
