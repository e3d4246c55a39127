pub mod Above
pub mod Answer
pub mod Below
pub mod Bounds
pub mod Rows
pub mod Sums
pub mod Table
