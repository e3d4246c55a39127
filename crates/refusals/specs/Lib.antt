pub mod Packed
pub mod Refusals
