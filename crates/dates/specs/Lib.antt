pub mod Century
pub mod Winters
pub mod Dates
pub mod Answers
