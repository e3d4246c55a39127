pub mod Decimal
pub mod Fields
pub mod Lines
pub mod Numbers
pub mod Put
pub mod Rows
pub mod Words
