pub mod PowerCalls
pub mod PowerWhole
