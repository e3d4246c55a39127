pub mod Days
pub mod Easter
pub mod Weekdays
pub mod WinterOf
pub mod Excluded
pub mod Clocks
pub mod Answers
