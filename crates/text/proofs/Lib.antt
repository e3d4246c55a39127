pub mod FirstRefusal
pub mod HeldValues
pub mod PrintLaws
pub mod Stands
pub mod StatementLaws
pub mod Statements
pub mod Told
pub mod ValueLaws
