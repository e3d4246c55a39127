pub mod Answers
pub mod Document
pub mod Form
pub mod Lines
pub mod Places
