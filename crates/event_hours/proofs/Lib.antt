pub mod Bits
pub mod HoursMask
pub mod HourLaws
pub mod DayLaws
pub mod AllDays
pub mod WhichBits
pub mod OwnHours
pub mod FreeDays
