pub mod Calls
pub mod Whole
pub mod EnergiesCall
pub mod EnergiesWhole
pub mod CentsCall
pub mod CentsWhole
