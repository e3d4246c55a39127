pub mod WarmUp
pub mod ReferenceDays
pub mod Search
