pub mod Waiting
pub mod Passed
