pub mod Asked
pub mod Reasons
pub mod Passed
