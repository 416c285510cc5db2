pub mod Signal
pub mod Passed
