pub mod HourLaws
pub mod HoursTold
pub mod NoticeLaws
pub mod ProfileLaws
pub mod Touching
