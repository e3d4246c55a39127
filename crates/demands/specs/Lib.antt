pub mod Faces
pub mod Clocks
pub mod Demand2
pub mod Demand3
pub mod PowerSheet
pub mod PowerDemand
