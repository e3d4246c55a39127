pub mod Price
pub mod Worth
pub mod Cents
pub mod Refusals
pub mod Pricing
pub mod Near
pub mod Nearest
