pub mod Refusals
pub mod Lines
pub mod Settlement
pub mod Printed
