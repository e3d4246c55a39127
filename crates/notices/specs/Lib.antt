pub mod Profiles
pub mod Notices
pub mod Hours
pub mod HoursVerdict
pub mod Sane
