pub mod Call
pub mod Passed
