pub mod Length
pub mod Places
pub mod Values
pub mod Readings
pub mod Part
pub mod Refusals
