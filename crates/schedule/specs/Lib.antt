pub mod Rules
pub mod ListCheck
pub mod Walkable
