pub mod Text
pub mod Passed
