pub mod Hours
pub mod Days
pub mod Events
