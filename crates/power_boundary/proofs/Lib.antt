pub mod PowerLaws
pub mod PowerRight
pub mod PowerTold
