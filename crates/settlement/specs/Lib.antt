pub mod Events
pub mod Lines
pub mod Printed
pub mod Refusals
pub mod Energies
