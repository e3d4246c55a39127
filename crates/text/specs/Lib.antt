pub mod Prints
pub mod Refusals
pub mod Statement
pub mod Values
